-- The forms that texts and numbers of a document may have, as readers of JSON: none where a value has another form.
use Rattle.std.specs.Prelude.{ℕ, ℤ, Bool, ◌&&◌, nat_lt, nat_le, List, [], ◌∷◌, length, codes, Option, option_and_then, bytes_eq}
use Rattle.std.specs.Bool.{then_some}
use Rattle.std.specs.List.{list_all, list_any}
use Rattle.serde_json.specs.Data.{Data}
use Rattle.serde_json.specs.Find.{as_str, as_number, as_u64, as_integer}
use Rattle.ruleset_model.specs.Forms.{is_id, is_header_value, is_redirect_status, is_token_byte, fixed_names}

-- ---- numbers

-- an integer: a number that is written in whole numbers
abbrev pub integer : Data → Option ℤ
integer d = option_and_then as_integer (as_number d)

-- an integer from the first to the last
abbrev pub number_within : ℕ → ℕ → Data → Option ℕ
number_within first last d = option_and_then (λ n. then_some (nat_le first n && nat_le n last) n) (option_and_then as_u64 (as_number d))

-- a status with which a rule may block
abbrev pub block_status : Data → Option ℕ
block_status = number_within 400 499

-- a status that sends elsewhere
abbrev pub redirect_status : Data → Option ℕ
redirect_status d = option_and_then (λ n. then_some (is_redirect_status n) n) (option_and_then as_u64 (as_number d))

-- ---- texts

-- a text that passes the test
abbrev pub text_that : (List ℕ → Bool) → Data → Option (List ℕ)
text_that test d = option_and_then (λ text. then_some (test text) text) (as_str d)

-- the id of a ruleset or a rule
abbrev pub id : Data → Option (List ℕ)
id = text_that is_id

-- the value of one header
abbrev pub header_value : Data → Option (List ℕ)
header_value = text_that is_header_value

-- a token of RFC 9110
abbrev pub is_token : List ℕ → Bool
is_token text = nat_lt 0 (length text) && list_all is_token_byte text

-- headers that speak of the connection, or of where the request goes: by their lower case
abbrev pub is_fixed_header : List ℕ → Bool
is_fixed_header lower = list_any (bytes_eq lower) fixed_names

-- the one word of the member `ruleset` of a skip
abbrev pub current : Data → Option (List ℕ)
current = text_that (bytes_eq (codes "current"))

-- what is done to the headers of a name
abbrev pub is_operation : List ℕ → Bool
is_operation text = list_any (bytes_eq text) (codes "set" ∷ codes "add" ∷ codes "remove" ∷ [])

abbrev pub operation : Data → Option (List ℕ)
operation = text_that is_operation
