-- The named lists that an expression may speak of.
use Rattle.std.specs.Prelude.{◌≡◌, ◌≢◌, ℕ, Bool, true, false, List, Some, All, slice_get, bytes_eq}
use Rattle.std.specs.List.{IsDistinct, list_all}
use Rattle.std.specs.Map.{keys_of}
use Rattle.edge_fields.specs.declared.kind.Basic.{Basic}
use Rattle.edge_fields.specs.declared.kind.Basic.TheVariants as basic

-- a named list holds texts or addresses
abbrev pub is_list_kind : Basic → Bool
is_list_kind basic.Text = true
is_list_kind basic.Num = false
is_list_kind basic.Addr = true
is_list_kind basic.Bool = false

-- lists with distinct names, of texts or of addresses
pub record AreLists (lists : List (List ℕ × Basic)) : Type 0 where
  pub distinct : IsDistinct bytes_eq (keys_of lists)
  pub kinds : list_all (λ (list : List ℕ × Basic). is_list_kind list.1) lists ≡ true

-- a list of the name stands at the place, and it is of the kind
abbrev pub IsListed : List (List ℕ × Basic) → List ℕ → ℕ × Basic → Type 0
IsListed lists name found = slice_get lists found.0 ≡ Some (name, found.1)

-- no list has the name
abbrev pub IsUnlisted : List (List ℕ × Basic) → List ℕ → Type 0
IsUnlisted lists name = All (λ (list : List ℕ × Basic). list.0 ≢ name) lists
