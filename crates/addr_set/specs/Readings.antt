-- Working vocabulary, which no public clause cites.
-- What is read of one text of an address list.
use Rattle.std.specs.Prelude.{◌≡◌, ℕ, ◌<◌, ◌≤◌, List, Some, Result, Ok, Err}
use Rattle.edge_base.specs.declared.address.Addr.{Addr}
use Rattle.edge_base.specs.declared.expression.Item.{Item}
use Rattle.edge_base.specs.declared.expression.Item.TheVariants as item
use Rattle.edge_base.specs.Address.{IsAddrText}
use Rattle.edge_base.specs.Token.{bits_of}
use Rattle.addr_set.specs.declared.reading.Flaw.{Flaw}
use Rattle.addr_set.specs.declared.reading.Flaw.TheVariants as flaw
use Rattle.addr_set.specs.Sets.{width_of, IsRange}
use Rattle.addr_set.specs.ItemTexts.{IsOneFamily, IsBelow, IsGoodText, IsNoItemText, IsLongPrefix, IsBackward}

-- what is read of a text is its item, or why it has none that holds addresses
abbrev pub Reads : List ℕ → Result Item Flaw → Type 0
Reads text (Ok one) = IsGoodText text one
Reads text (Err flaw.Address) = IsNoItemText text
Reads text (Err flaw.Prefix) = IsLongPrefix text
Reads text (Err flaw.Backward) = IsBackward text

-- the same of two addresses that `..` joins
abbrev pub ReadsJoined : Addr → Addr → Result Item Flaw → Type 0
ReadsJoined first last (Ok one) = (one ≡ item.Addrs first last) × IsRange first last
ReadsJoined first last (Err flaw.Address) = ¬ (IsOneFamily first last)
ReadsJoined first last (Err flaw.Prefix) = ⊥
ReadsJoined first last (Err flaw.Backward) = IsBelow last first

-- the same of what stands on both sides of `..`
abbrev pub ReadsRange : List ℕ → List ℕ → Result Item Flaw → Type 0
ReadsRange left right (Ok one) = (first last : Addr) × (one ≡ item.Addrs first last) × IsAddrText left first × IsAddrText right last × IsRange first last
ReadsRange left right (Err flaw.Address) = (first last : Addr) → IsAddrText left first → IsAddrText right last → ¬ (IsOneFamily first last)
ReadsRange left right (Err flaw.Prefix) = ⊥
ReadsRange left right (Err flaw.Backward) = (first last : Addr) × IsAddrText left first × IsAddrText right last × IsBelow last first

-- the same of what stands on both sides of `/`
abbrev pub ReadsBlock : List ℕ → List ℕ → Result Item Flaw → Type 0
ReadsBlock left digits (Ok one) = (base : Addr) × (bits : ℕ) × (one ≡ item.Block base bits) × IsAddrText left base × (bits_of digits ≡ Some bits) × (bits ≤ width_of base)
ReadsBlock left digits (Err flaw.Address) = (base : Addr) (bits : ℕ) → IsAddrText left base → ¬ (bits_of digits ≡ Some bits)
ReadsBlock left digits (Err flaw.Prefix) = (base : Addr) × (bits : ℕ) × IsAddrText left base × (bits_of digits ≡ Some bits) × (width_of base < bits)
ReadsBlock left digits (Err flaw.Backward) = ⊥
