-- What an object of a line has: its members, and the texts and tokens among them.
use Rattle.std.specs.Prelude.{ℕ, Bool, false, ◌&&◌, ◌==◌, nat_lt, List, length, Option, option_and_then}
use Rattle.std.specs.Option.{option_map_or}
use Rattle.std.specs.List.{list_all}
use Rattle.serde_json.specs.Data.{Data}
use Rattle.serde_json.specs.Find.{get, as_str, as_array, as_object}
use Rattle.ruleset_model.specs.Forms.{is_token_byte}
use Rattle.serde_json.specs.Events.{items_len, members_len}

-- the value is an object of so many members
abbrev pub has_members : ℕ → Data → Bool
has_members count value = option_map_or (λ members. members_len members == count) (as_object value) false

-- the value is an array of so many elements
abbrev pub has_items : ℕ → Data → Bool
has_items count value = option_map_or (λ items. items_len items == count) (as_array value) false

-- the text of a member
abbrev pub text_of : List ℕ → Data → Option (List ℕ)
text_of name value = option_and_then as_str (get name value)

-- a token: one such byte or more
abbrev pub is_token : List ℕ → Bool
is_token text = nat_lt 0 (length text) && list_all is_token_byte text
