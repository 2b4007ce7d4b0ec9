-- What functions of JSON texts give.
use Rattle.std.specs.Prelude.{ℕ, ℤ, pos, negsuc, Bool, nat_le, ◌&&◌, List, [], ◌∷◌, length, Option, None, Some, option_and_then, if◌then◌else◌}
use Rattle.std.specs.Option.{option_map}
use Rattle.std.specs.Str.{is_utf8}
use Rattle.serde_json.specs.Data.{Data}
use Rattle.serde_json.specs.Find.{get, at, as_str, as_number, as_i64}
use Rattle.serde_json.specs.Read.{read}
use Rattle.edge_fields.specs.declared.value.Value.{Value, out-Value}
use Rattle.edge_fields.specs.declared.value.Value.TheOpen as open_value
use Rattle.edge_fields.specs.declared.value.Value.TheVariants as value
use Rattle.edge_fields.specs.Values.{text_in}

-- the JSON value that a text is, if it is one
abbrev pub json_of : List ℕ → Option Data
json_of text = if is_utf8 text then read text else None

-- the member of an object under a name, which is UTF-8
abbrev pub member_of : List ℕ → Data → Option Data
member_of name d = if is_utf8 name then get name d else None

-- the element of an array at a place
abbrev pub element_of : ℤ → Data → Option Data
element_of (pos n) d = at n d
element_of (negsuc n) d = None

abbrev pub step_in : open_value.Value-F Value → Data → Option Data
step_in (open_value.Text name) d = member_of name d
step_in (open_value.Num place) d = element_of place d
step_in (open_value.Addr addr) d = None
step_in (open_value.Bool truth) d = None
step_in (open_value.Array items) d = None
step_in (open_value.Map entries) d = None

-- what a key leads to: a text into an object, a number into an array
abbrev pub step_of : Value → Data → Option Data
step_of key d = step_in (out-Value key) d

-- what keys lead to, one after the other
abbrev pub found_at : List Value → Data → Option Data
found_at [] d = Some d
found_at (key ∷ keys) d = option_and_then (found_at keys) (step_of key d)

-- from one key to eight
abbrev pub is_key_count : List Value → Bool
is_key_count keys = nat_le 1 (length keys) && nat_le (length keys) 8

-- a text and from one key to eight
abbrev pub text_and_keys : List Value → Option (List ℕ × List Value)
text_and_keys [] = None
text_and_keys (v ∷ keys) = if is_key_count keys then option_map (λ text. (text, keys)) (text_in v) else None

-- what the keys lead to in the JSON value that the text is
abbrev pub looked_up : List Value → Option Data
looked_up vs = option_and_then (λ args. option_and_then (found_at args.1) (json_of args.0)) (text_and_keys vs)

-- lookup_json_string: the string that the keys lead to
abbrev pub lookup_json_string_of : List Value → Option Value
lookup_json_string_of vs = option_map value.Text (option_and_then as_str (looked_up vs))

-- lookup_json_integer: the integer within i64 that the keys lead to
abbrev pub lookup_json_integer_of : List Value → Option Value
lookup_json_integer_of vs = option_map value.Num (option_and_then as_i64 (option_and_then as_number (looked_up vs)))
