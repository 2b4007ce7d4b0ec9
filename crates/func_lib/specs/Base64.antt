-- What functions of base64 give, by the engines of `base64`.
use Rattle.std.specs.Prelude.{ℕ, nat_eq, ◌||◌, List, [], Option, None, Some, option_and_then, bytes_eq, codes, if◌then◌else◌}
use Rattle.std.specs.List.{ends_with}
use Rattle.std.specs.Option.{option_map, unwrap_or}
use Rattle.std.specs.Result.{result_ok}
use Rattle.base64.specs.declared.engine.general_purpose.GeneralPurpose.{GeneralPurpose}
use Rattle.base64.specs.Engines.{standard, standard_no_pad, url_safe, url_safe_no_pad}
use Rattle.base64.specs.GeneralPurpose.{encode_of, decode_of}
use Rattle.edge_fields.specs.declared.value.Value.{Value}
use Rattle.edge_fields.specs.declared.value.Value.TheVariants as value
use Rattle.edge_fields.specs.Values.{text_in}
use Rattle.func_lib.specs.Arguments.{optional_of, one_text, one_or_two}

-- the engine that flags choose: `u` the URL-safe alphabet, `p` padding, each at most once
abbrev pub engine_of : List ℕ → Option GeneralPurpose
engine_of flags =
    if bytes_eq flags [] then Some standard_no_pad
    else if bytes_eq flags (codes "p") then Some standard
    else if bytes_eq flags (codes "u") then Some url_safe_no_pad
    else if bytes_eq flags (codes "up") || bytes_eq flags (codes "pu") then Some url_safe
    else None

-- a text and perhaps flags; none are as the empty ones
abbrev pub text_and_flags : List Value → Option (List ℕ × List ℕ)
text_and_flags vs =
    option_and_then (λ args. option_and_then (λ text. option_map (λ flags. (text, unwrap_or flags []))
    (optional_of text_in args.1)) (text_in args.0)) (one_or_two vs)

-- a text by the engine that the flags choose
abbrev pub encoded : List ℕ → List ℕ → Option (List ℕ)
encoded flags text = option_map (λ engine. encode_of engine text) (engine_of flags)

-- encode_base64: the text by the engine that the flags choose
abbrev pub encode_base64_of : List Value → Option Value
encode_base64_of vs =
    option_and_then (λ args. option_map (λ engine. value.Text (encode_of engine args.0)) (engine_of args.1)) (text_and_flags vs)

-- the engine that reads a text: with padding where the text ends in `=`, else without
abbrev pub reader_of : List ℕ → GeneralPurpose
reader_of text = if ends_with nat_eq text (codes "=") then standard else standard_no_pad

-- the bytes whose standard encoding is the text, if there are any
abbrev pub decoded : List ℕ → Option (List ℕ)
decoded text = result_ok (decode_of (reader_of text) text)

-- decode_base64: the bytes whose standard encoding is the text
abbrev pub decode_base64_of : List Value → Option Value
decode_base64_of vs = option_map value.Text (option_and_then decoded (one_text vs))
