-- What named lists have, and which can't be built.
use Rattle.std.specs.Prelude.{◌≡◌, ◌≢◌, ℕ, ◌<◌, ◌≤◌, Bool, true, false, IsTrue, List, length, take, slice_index_or, Result, Err}
use Rattle.std.specs.List.{list_any, All, Any, HoldsAt}
use Rattle.std.specs.Str.{bytes_eq}
use Rattle.edge_base.specs.declared.address.Addr.{Addr}
use Rattle.edge_base.specs.declared.expression.Item.{Item}
use Rattle.edge_fields.specs.declared.kind.Basic.{Basic}
use Rattle.edge_fields.specs.declared.kind.Basic.TheVariants as basic
use Rattle.addr_set.specs.Sets.{holds}
use Rattle.addr_set.specs.ItemTexts.{IsGoodText, IsRefused, IsFirstFlaw}
use Rattle.list_store.specs.declared.part.ListPart.{ListPart}
use Rattle.list_store.specs.declared.part.ListFault.{ListFault}
use Rattle.list_store.specs.declared.part.ListFault.TheVariants as fault

-- whether a text list has a text
abbrev pub has_text : List (List ℕ) → List ℕ → Bool
has_text items text = list_any (λ item. bytes_eq text item) items

-- an address list has an address: some text of it stands for an item that holds the address
abbrev pub HasAddr : List (List ℕ) → Addr → Type 0
HasAddr items address = Any (λ text. (one : Item) × IsGoodText text one × IsTrue (holds one address)) items

-- each text stands for an item that holds addresses
abbrev pub AreRead : List (List ℕ) → Type 0
AreRead items = All (λ text. (one : Item) × IsGoodText text one) items

-- the kinds that a list can have
abbrev pub IsListKind : Basic → Type 0
IsListKind basic.Text = Unit {0}
IsListKind basic.Num = ⊥
IsListKind basic.Addr = Unit {0}
IsListKind basic.Bool = ⊥

-- whether one of these lists has the name
abbrev pub is_named : List ListPart → List ℕ → Bool
is_named parts name = list_any (λ part. bytes_eq name part.name) parts

-- a list after these has no fault
pub record IsFine (earlier : List ListPart) (part : ListPart) : Type 0 where
  pub new_name : is_named earlier part.name ≡ false
  pub few : length part.items ≤ 50000
  pub read : part.kind ≡ basic.Addr → AreRead part.items

-- a list after these has the name of one of them
abbrev pub IsRepeated : List ListPart → ListPart → Type 0
IsRepeated earlier part = is_named earlier part.name ≡ true

-- its name is new, and it has too many items
pub record HasTooMany (earlier : List ListPart) (part : ListPart) : Type 0 where
  pub new_name : is_named earlier part.name ≡ false
  pub many : 50000 < length part.items

-- its name is new, it has no more items than it may, and is one of addresses whose first bad item is at this place
pub record HasBadItem (at : ℕ) (earlier : List ListPart) (part : ListPart) : Type 0 where
  pub new_name : is_named earlier part.name ≡ false
  pub few : length part.items ≤ 50000
  pub is_addr : part.kind ≡ basic.Addr
  pub first : IsFirstFlaw IsRefused part.items at

-- the lists before a place have no fault
abbrev pub AreFineBefore : List ListPart → ℕ → Type 0
AreFineBefore parts list = (k : ℕ) (d : ListPart) → k < list → IsFine (take k parts) (slice_index_or parts k d)

-- the list at this place is the first with a fault, which is this one
pub record IsFirstList (Fault : List ListPart → ListPart → Type 0) (parts : List ListPart) (list : ℕ) : Type 0 where
  pub within : list < length parts
  pub before : AreFineBefore parts list
  pub here : (d : ListPart) → Fault (take list parts) (slice_index_or parts list d)

-- an answer of this cause names the first list with a fault, which is this one
abbrev pub NamesFirstList : {A : Type 0} → (ℕ → ListFault) → (List ListPart → ListPart → Type 0) → List ListPart → Result A ListFault → Type 0
NamesFirstList cause Fault parts answer = (list : ℕ) → answer ≡ Err (cause list) → IsFirstList Fault parts list

-- an answer of this cause names the first list with a bad item, and its first bad item
abbrev pub NamesFirstItem : {A : Type 0} → (ℕ → ℕ → ListFault) → List ListPart → Result A ListFault → Type 0
NamesFirstItem cause parts answer = (list at : ℕ) → answer ≡ Err (cause list at) → IsFirstList (HasBadItem at) parts list

-- what a fault says of the lists; want of memory says nothing
abbrev pub IsListFault : List ListPart → ListFault → Type 0
IsListFault parts (fault.DuplicateList list) = IsFirstList IsRepeated parts list
IsListFault parts (fault.TooManyItems list) = IsFirstList HasTooMany parts list
IsListFault parts (fault.BadListItem list at) = IsFirstList (HasBadItem at) parts list
IsListFault parts fault.Memory = Unit {0}

-- lists with a fault other than want of memory aren't all fine, and have no other such fault
abbrev pub ListFaultsAreUnique : Type 0
ListFaultsAreUnique =
    (parts : List ListPart) (a : ListFault) → a ≢ fault.Memory → IsListFault parts a
    → ¬ (AreFineBefore parts (length parts)) × ((b : ListFault) → b ≢ fault.Memory → IsListFault parts b → a ≡ b)

-- there is a list at this place, and it has the kind
pub record IsListOf (parts : List ListPart) (list : ℕ) (kind : Basic) : Type 0 where
  pub within : list < length parts
  pub is_kind : HoldsAt (λ part. part.kind ≡ kind) parts list
