-- Working vocabulary, which no public clause cites.
-- What is kept of a list, so that it is asked without a scan.
use Rattle.std.specs.Prelude.{◌≡◌, ◌↔◌, ℕ, IsTrue, List, Result, Ok, Err}
use Rattle.std.specs.List.{list_any}
use Rattle.std.specs.Str.{bytes_eq}
use Rattle.std.specs.declared.vec.Vec.{Vec}
use Rattle.edge_base.specs.declared.address.Addr.{Addr}
use Rattle.edge_fields.specs.declared.kind.Basic.TheVariants as basic
use Rattle.addr_set.specs.declared.set.AddrSet.{AddrSet}
use Rattle.addr_set.specs.Sets.{addresses_of}
use Rattle.addr_set.specs.ItemTexts.{IsRefused, IsFirstFlaw}
use Rattle.list_store.specs.declared.part.ListPart.{ListPart}
use Rattle.list_store.specs.declared.part.ListFault.{ListFault}
use Rattle.list_store.specs.declared.part.ListFault.TheVariants as fault
use Rattle.list_store.specs.declared.members.Members.{Members}
use Rattle.list_store.specs.declared.members.Members.TheVariants as members
use Rattle.list_store.specs.Parts.{has_text, HasAddr, AreRead, IsFine, IsRepeated, HasTooMany, HasBadItem}

-- among the keys of a set are just these texts
abbrev pub AreKeysOf : {A : Type 0} → List (Vec ℕ A) → List (List ℕ) → Type 0
AreKeysOf keys items = (text : List ℕ) → list_any (λ key. bytes_eq text key.items) keys ≡ has_text items text

-- the set has the addresses that the texts stand for
abbrev pub IsAddrSetOf : List (List ℕ) → AddrSet → Type 0
IsAddrSetOf items set = (address : Addr) → IsTrue (addresses_of set address) ↔ HasAddr items address

-- these are the members of the list
abbrev pub AreMembersOf : ListPart → Members → Type 0
AreMembersOf part (members.Addrs set) = (part.kind ≡ basic.Addr) × IsAddrSetOf part.items set
AreMembersOf part (members.Texts set) =
    (part.kind ≡ basic.Text) × AreKeysOf set.keys part.items

-- what is read of the texts of an address list
abbrev pub ReadsAddrs : List (List ℕ) → ℕ → Result AddrSet ListFault → Type 0
ReadsAddrs items list (Ok set) = AreRead items × IsAddrSetOf items set
ReadsAddrs items list (Err (fault.BadListItem place at)) = (place ≡ list) × IsFirstFlaw IsRefused items at
ReadsAddrs items list (Err fault.Memory) = Unit {0}
ReadsAddrs items list (Err other) = ⊥

-- what is made of the list at a place, after these
abbrev pub Makes : List ListPart → ListPart → ℕ → Result Members ListFault → Type 0
Makes earlier part list (Ok made) = IsFine earlier part × AreMembersOf part made
Makes earlier part list (Err (fault.DuplicateList place)) = (place ≡ list) × IsRepeated earlier part
Makes earlier part list (Err (fault.TooManyItems place)) = (place ≡ list) × HasTooMany earlier part
Makes earlier part list (Err (fault.BadListItem place at)) = (place ≡ list) × HasBadItem at earlier part
Makes earlier part list (Err fault.Memory) = Unit {0}
