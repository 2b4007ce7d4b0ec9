-- A test that tells which values lists have, where no two of them have one name.
use Rattle.std.proofs.Common.{◌≡◌, ◌↔◌, ℕ, zero, suc, ◌<◌, Bool, true, false, cond, IsTrue, List, [], ◌∷◌, length, get_or, refl, sym, ◌∙◌, arith, bytes_eq}
use Rattle.std.specs.List.{AllZip, AllByRecursion, IsDistinct, list_any}
use Rattle.std.proofs.lemmas.Bool.{false≢true}
use Rattle.std.proofs.lemmas.Slice.Eq.{bytes_eq-Decides}
use Rattle.edge_fields.specs.declared.kind.Basic.TheVariants as basic
use Rattle.edge_fields.specs.declared.value.Value.{Value, out-Value}
use Rattle.edge_fields.specs.declared.value.Value.TheOpen as open_value
use Rattle.addr_set.specs.declared.set.AddrSet.{AddrSet}
use Rattle.addr_set.specs.Sets.{addresses_of}
use Rattle.list_store.specs.declared.part.ListPart.{ListPart}
use Rattle.list_store.specs.declared.members.Members.{Members}
use Rattle.list_store.specs.declared.members.Members.TheVariants as members
use Rattle.list_store.specs.Members.{IsAddrSetOf, AreMembersOf}
use Rattle.list_store.specs.Listed.{HasShown, HasValue, TellsLists, names_of, CanBeTold}

abbrev has_shown : Members → open_value.Value-F Value → Bool
has_shown (members.Addrs set) (open_value.Addr address) = addresses_of set address
has_shown (members.Texts set) (open_value.Text text) = list_any (λ key. bytes_eq text key.items) set.keys
has_shown made other = false

neither : {P : Type 0} → ¬ P → IsTrue false ↔ P
neither none = (λ h. absurd (false≢true h), λ p. absurd (none p))

shown_addrs : (items : List (List ℕ)) (set : AddrSet) → IsAddrSetOf items set → (shown : open_value.Value-F Value)
    → IsTrue (has_shown (members.Addrs set) shown) ↔ HasShown basic.Addr items shown
shown_addrs items set h (open_value.Text text) = neither (λ x. x)
shown_addrs items set h (open_value.Num number) = neither (λ x. x)
shown_addrs items set h (open_value.Addr address) = h address
shown_addrs items set h (open_value.Bool truth) = neither (λ x. x)
shown_addrs items set h (open_value.Array values) = neither (λ x. x)
shown_addrs items set h (open_value.Map entries) = neither (λ x. x)

same_truth : (a b : Bool) → a ≡ b → IsTrue a ↔ IsTrue b
same_truth a b e = (λ h. sym e ∙ h, λ h. e ∙ h)

value_is : (part : ListPart) (made : Members) (v : Value) → AreMembersOf part made → IsTrue (has_shown made (out-Value v)) ↔ HasValue part v
value_is part (members.Addrs set) v h = rw h.0 (shown_addrs part.items set h.1 (out-Value v))
value_is part (members.Texts set) v h = elim (out-Value v) as (λ shown. IsTrue (has_shown (members.Texts set) shown) ↔ HasShown part.kind part.items shown) [
  | open_value.Text text ↦ rw h.0 (same_truth _ _ (h.1 text))
  | open_value.Num number ↦ rw h.0 (neither (λ x. x))
  | open_value.Addr address ↦ rw h.0 (neither (λ x. x))
  | open_value.Bool truth ↦ rw h.0 (neither (λ x. x))
  | open_value.Array values ↦ rw h.0 (neither (λ x. x))
  | open_value.Map entries ↦ rw h.0 (neither (λ x. x))
]

-- what the members of the first list of a name say
abbrev told : List ListPart → List Members → List ℕ → Value → Bool
told [] made name v = false
told (part ∷ parts) [] name v = false
told (part ∷ parts) (m ∷ made) name v = cond (bytes_eq name part.name) (has_shown m (out-Value v)) (told parts made name v)

all_at : (P : List ℕ → Type 0) (parts : List ListPart) (k : ℕ) (d : ListPart) → AllByRecursion P (names_of parts) → k < length parts → P (get_or parts k d).name
all_at P [] k d h below = absurd (omega arith)
all_at P (part ∷ parts) zero d h below = h.0
all_at P (part ∷ parts) (suc k) d h below = all_at P parts k d h.1 (omega arith)

turned : (t : Bool) (a b : List ℕ) → bytes_eq b a ≡ t → bytes_eq a b ≡ false → t ≡ false
turned true a b h other =
    let same : a ≡ b = sym ((bytes_eq-Decides b a).0 h) in
    absurd (false≢true (sym other ∙ (bytes_eq-Decides a b).1 same))
turned false a b h other = refl

tells : (parts : List ListPart) (made : List Members) → AllZip AreMembersOf parts made → IsDistinct bytes_eq (names_of parts) → TellsLists (told parts made) parts
unfolding IsDistinct
tells [] made h distinct k d below v = absurd (omega arith)
tells (part ∷ parts) [] h distinct k d below v = absurd h
tells (part ∷ parts) (m ∷ made) h distinct zero d below v =
    let same : bytes_eq part.name part.name ≡ true = (bytes_eq-Decides part.name part.name).1 refl in
    rw same (value_is part m v h.0)
tells (part ∷ parts) (m ∷ made) h distinct (suc k) d below v =
    let within : k < length parts = omega arith in
    let name = (get_or parts k d).name in
    let other : bytes_eq name part.name ≡ false
    = turned (bytes_eq name part.name) part.name name refl (all_at (λ own. bytes_eq part.name own ≡ false) parts k d distinct.0 within) in
    rw other (tells parts made h.1 distinct.1 k d within v)

pub can_be_told : (parts now : List ListPart) (made : List Members) → parts ≡ now → AllZip AreMembersOf parts made → IsDistinct bytes_eq (names_of now) → CanBeTold now
can_be_told parts now made same h distinct = let zip = rw same at h in (told now made, tells now made zip distinct)
