-- What the function of URL encoding gives.
use Rattle.std.specs.Prelude.{ℕ, ◌+◌, ◌*◌, Bool, ◌&&◌, ◌==◌, List, [], ◌∷◌, Option, if◌then◌else◌}
use Rattle.std.specs.Char.{digit_value, is_digit}
use Rattle.std.specs.Option.{option_map}
use Rattle.edge_base.specs.Bytes.{space, percent, plus}
use Rattle.edge_fields.specs.declared.value.Value.{Value}
use Rattle.edge_fields.specs.declared.value.Value.TheVariants as value
use Rattle.func_lib.specs.Arguments.{one_text}

-- a byte that no escape takes in: a `+` is a blank, another stays
abbrev pub unescaped : ℕ → ℕ
unescaped byte = if byte == plus then space else byte

-- these three bytes are `%` and two hexadecimal digits
abbrev pub is_escape : ℕ → ℕ → ℕ → Bool
is_escape byte high low = byte == percent && is_digit high 16 && is_digit low 16

-- a text with each `+` as a blank and each `%` with two hexadecimal digits as its byte, in one pass
unfoldable pub url_decoded : List ℕ → List ℕ
url_decoded [] = []
url_decoded (byte ∷ []) = unescaped byte ∷ []
url_decoded (byte ∷ next ∷ []) = unescaped byte ∷ unescaped next ∷ []
url_decoded (byte ∷ high ∷ low ∷ rest) =
    if is_escape byte high low then (16 * digit_value high + digit_value low) ∷ url_decoded rest
    else unescaped byte ∷ url_decoded (high ∷ low ∷ rest)

-- url_decode: the text, decoded in one pass
abbrev pub url_decode_of : List Value → Option Value
url_decode_of vs = option_map (λ text. value.Text (url_decoded text)) (one_text vs)
