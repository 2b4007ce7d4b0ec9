-- Which texts stand for which items of an address list.
use Rattle.std.specs.Prelude.{◌≡◌, ◌≢◌, ℕ, ◌<◌, List, ◌++◌, length, codes, Result, Ok, Err}
use Rattle.std.specs.List.{AllWithin, AllZip, HoldsAt}
use Rattle.edge_base.specs.declared.address.Addr.{Addr}
use Rattle.edge_base.specs.declared.address.Addr.TheVariants as addr
use Rattle.edge_base.specs.declared.expression.Lit.TheVariants as lit
use Rattle.edge_base.specs.declared.expression.Item.{Item}
use Rattle.edge_base.specs.declared.expression.Item.TheVariants as item
use Rattle.edge_base.specs.Address.{IsAddrText}
use Rattle.edge_base.specs.Token.{IsBlockText}
use Rattle.addr_set.specs.declared.reading.ItemFault.{ItemFault}
use Rattle.addr_set.specs.declared.reading.ItemFault.TheVariants as fault
use Rattle.addr_set.specs.Sets.{width_of, IsAddrItem}

-- two addresses of one family
abbrev pub IsOneFamily : Addr → Addr → Type 0
IsOneFamily (addr.V4 first) (addr.V4 last) = Unit {0}
IsOneFamily (addr.V6 first) (addr.V6 last) = Unit {0}
IsOneFamily first last = ⊥

-- two addresses of one family, the first below the second
abbrev pub IsBelow : Addr → Addr → Type 0
IsBelow (addr.V4 one) (addr.V4 other) = one < other
IsBelow (addr.V6 one) (addr.V6 other) = one < other
IsBelow one other = ⊥

-- two addresses of one family, joined by `..`
pub record IsRangeText (text : List ℕ) (first last : Addr) : Type 0 where
  pub left : List ℕ
  pub right : List ℕ
  pub spelled : text ≡ left ++ codes ".." ++ right
  pub is_first : IsAddrText left first
  pub is_last : IsAddrText right last
  pub one_family : IsOneFamily first last

-- the text stands for the item, which may be a range that runs backward or a block with too many bits
abbrev pub IsItemText : List ℕ → Item → Type 0
IsItemText text (item.One (lit.Addr one)) = IsAddrText text one
IsItemText text (item.Addrs first last) = IsRangeText text first last
IsItemText text (item.Block one bits) = IsBlockText text one bits
IsItemText text other = ⊥

-- the text stands for the item, and it holds addresses
pub record IsGoodText (text : List ℕ) (one : Item) : Type 0 where
  pub spelled : IsItemText text one
  pub is_good : IsAddrItem one

-- a text stands for at most one item
abbrev pub ItemIsUnique : Type 0
ItemIsUnique = (text : List ℕ) (a b : Item) → IsItemText text a → IsItemText text b → a ≡ b

-- the text stands for no item that holds addresses
abbrev pub IsRefused : List ℕ → Type 0
IsRefused text = (one : Item) → ¬ (IsGoodText text one)

-- the text stands for no item
abbrev pub IsNoItemText : List ℕ → Type 0
IsNoItemText text = (one : Item) → ¬ (IsItemText text one)

-- the text stands for a block with more bits than its address has
abbrev pub IsLongPrefix : List ℕ → Type 0
IsLongPrefix text = (one : Addr) × (bits : ℕ) × IsBlockText text one bits × (width_of one < bits)

-- the text stands for a range that runs backward
abbrev pub IsBackward : List ℕ → Type 0
IsBackward text = (first last : Addr) × IsRangeText text first last × IsBelow last first

-- the text at this place has the flaw, and those before it stand for items that hold addresses
pub record IsFirstFlaw (HasFlaw : List ℕ → Type 0) (texts : List (List ℕ)) (at : ℕ) : Type 0 where
  pub within : at < length texts
  pub before : AllWithin (λ text. (one : Item) × IsGoodText text one) texts 0 at
  pub here : HoldsAt HasFlaw texts at

-- an answer of this cause names the first text with the flaw
abbrev pub NamesFirst : (ℕ → ItemFault) → (List ℕ → Type 0) → List (List ℕ) → Result (List Item) ItemFault → Type 0
NamesFirst cause HasFlaw texts answer = (at : ℕ) → answer ≡ Err (cause at) → IsFirstFlaw HasFlaw texts at

-- what an answer says of the texts: their items, or the first that stands for none that holds addresses, and why
abbrev pub AreReadAs : List (List ℕ) → Result (List Item) ItemFault → Type 0
AreReadAs texts (Ok items) = AllZip IsGoodText texts items
AreReadAs texts (Err (fault.BadAddr at)) = IsFirstFlaw IsNoItemText texts at
AreReadAs texts (Err (fault.BadPrefix at)) = IsFirstFlaw IsLongPrefix texts at
AreReadAs texts (Err (fault.BackwardRange at)) = IsFirstFlaw IsBackward texts at
AreReadAs texts (Err fault.Memory) = Unit {0}

-- texts have one answer, but for want of memory
abbrev pub ReadingsAreUnique : Type 0
ReadingsAreUnique =
    (texts : List (List ℕ)) (a b : Result (List Item) ItemFault) → a ≢ Err fault.Memory → b ≢ Err fault.Memory
    → AreReadAs texts a → AreReadAs texts b → a ≡ b
