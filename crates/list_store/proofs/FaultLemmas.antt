-- The faults of lists exclude one another.
use Rattle.std.proofs.Common.{◌≡◌, ◌≢◌, ℕ, ◌<◌, ◌≤◌, List, [], length, get_or, take, refl, sym, ap, ap₂, subst, inl, inr, arith}
use Rattle.std.proofs.lemmas.Bool.{both_ways, cases_order}
use Rattle.addr_set.specs.ItemTexts.{IsRefused}
use Rattle.addr_set.proofs.FlawLemmas.{IsNeverGood, one_place}
use Rattle.list_store.specs.declared.part.ListPart.{ListPart}
use Rattle.list_store.specs.declared.part.ListFault.{ListFault}
use Rattle.list_store.specs.declared.part.ListFault.TheVariants as fault
use Rattle.list_store.specs.Parts.{is_named, IsFine, IsRepeated, HasTooMany, HasBadItem, AreFineBefore, IsFirstList, IsListFault, ListFaultsAreUnique}
use Rattle.list_store.proofs.ListLemmas.{first_part}

abbrev Cause : Type 1
Cause = List ListPart → ListPart → Type 0

-- ---- one list

-- a list that is fine lacks the fault
abbrev IsNeverFine : Cause → Type 0
IsNeverFine HasFault = (earlier : List ListPart) (part : ListPart) → IsFine earlier part → ¬ (HasFault earlier part)

-- no list has both faults
abbrev AreNeverBoth : Cause → Cause → Type 0
AreNeverBoth HasFault HasOther = (earlier : List ListPart) (part : ListPart) → HasFault earlier part → ¬ (HasOther earlier part)

repeated_never_fine : IsNeverFine IsRepeated
repeated_never_fine earlier part fine repeated = both_ways (is_named earlier part.name) fine.new_name repeated

many_never_fine : IsNeverFine HasTooMany
many_never_fine earlier part fine many = let few = fine.few in let above = many.many in omega arith

bad_never_fine : (at : ℕ) → IsNeverFine (HasBadItem at)
bad_never_fine at earlier part fine bad =
    let good = fine.read bad.is_addr at [] bad.first.within in
    bad.first.here [] good.0 good.1

repeated_not_many : AreNeverBoth IsRepeated HasTooMany
repeated_not_many earlier part repeated many = both_ways (is_named earlier part.name) many.new_name repeated

repeated_not_bad : (at : ℕ) → AreNeverBoth IsRepeated (HasBadItem at)
repeated_not_bad at earlier part repeated bad = both_ways (is_named earlier part.name) bad.new_name repeated

many_not_bad : (at : ℕ) → AreNeverBoth HasTooMany (HasBadItem at)
many_not_bad at earlier part many bad = let few = bad.few in let above = many.many in omega arith

refused_never_good : IsNeverGood IsRefused
refused_never_good text one good refused = refused one good

one_item : (at other : ℕ) (earlier : List ListPart) (part : ListPart) → HasBadItem at earlier part → HasBadItem other earlier part → at ≡ other
one_item at other earlier part bad also =
    one_place IsRefused IsRefused refused_never_good refused_never_good part.items at other bad.first also.first

-- ---- lists

module _ (HasFault HasOther : Cause) (never : IsNeverFine HasFault) (never_other : IsNeverFine HasOther) (parts : List ListPart) (list other : ℕ)
    (first : IsFirstList HasFault parts list) (first_other : IsFirstList HasOther parts other) where
  abbrev first_one : ListPart
  first_one = first_part parts list first.within

  same_list : list ≡ other
  same_list = elim (cases_order list other) [
    | inl same ↦ same
    | inr apart ↦ elim apart [
      | inl before ↦ absurd (never (take list parts) (get_or parts list first_one) (first_other.before list first_one before) (first.here first_one))
      | inr behind ↦ absurd (never_other (take other parts) (get_or parts other first_one) (first.before other first_one behind) (first_other.here first_one))
    ]
  ]

  other_here : HasOther (take list parts) (get_or parts list first_one)
  other_here = subst (λ k. HasOther (take k parts) (get_or parts k first_one)) (sym same_list) (first_other.here first_one)

  no_two : AreNeverBoth HasFault HasOther → ⊥
  no_two apart = apart (take list parts) (get_or parts list first_one) (first.here first_one) other_here

fine_or_not : (HasFault : Cause) → IsNeverFine HasFault → (parts : List ListPart) (list : ℕ) → IsFirstList HasFault parts list → ¬ (AreFineBefore parts (length parts))
fine_or_not HasFault never parts list first fine =
    let d = first_part parts list first.within in
    never (take list parts) (get_or parts list d) (fine list d first.within) (first.here d)

not_fine : (parts : List ListPart) (a : ListFault) → a ≢ fault.Memory → IsListFault parts a → ¬ (AreFineBefore parts (length parts))
not_fine parts (fault.DuplicateList list) known h = fine_or_not IsRepeated repeated_never_fine parts list h
not_fine parts (fault.TooManyItems list) known h = fine_or_not HasTooMany many_never_fine parts list h
not_fine parts (fault.BadListItem list at) known h = fine_or_not (HasBadItem at) (bad_never_fine at) parts list h
not_fine parts fault.Memory known h = absurd (known refl)

same_bad : (parts : List ListPart) (list other at place : ℕ) → IsFirstList (HasBadItem at) parts list → IsFirstList (HasBadItem place) parts other
    → fault.BadListItem list at ≡ fault.BadListItem other place
same_bad parts list other at place h k =
    let never = bad_never_fine at in
    let never_other = bad_never_fine place in
    let d = first_part parts list h.within in
    ap₂ (λ l p. fault.BadListItem l p)
    (same_list (HasBadItem at) (HasBadItem place) never never_other parts list other h k)
    (one_item at place (take list parts) (get_or parts list d) (h.here d) (other_here (HasBadItem at) (HasBadItem place) never never_other parts list other h k))

same_fault : (parts : List ListPart) (a b : ListFault) → a ≢ fault.Memory → b ≢ fault.Memory → IsListFault parts a → IsListFault parts b → a ≡ b
same_fault parts (fault.DuplicateList list) (fault.DuplicateList other) m n h k =
    ap (λ l. fault.DuplicateList l) (same_list IsRepeated IsRepeated repeated_never_fine repeated_never_fine parts list other h k)
same_fault parts (fault.DuplicateList list) (fault.TooManyItems other) m n h k =
    absurd (no_two IsRepeated HasTooMany repeated_never_fine many_never_fine parts list other h k repeated_not_many)
same_fault parts (fault.DuplicateList list) (fault.BadListItem other at) m n h k =
    absurd (no_two IsRepeated (HasBadItem at) repeated_never_fine (bad_never_fine at) parts list other h k (repeated_not_bad at))
same_fault parts (fault.TooManyItems list) (fault.DuplicateList other) m n h k =
    absurd (no_two IsRepeated HasTooMany repeated_never_fine many_never_fine parts other list k h repeated_not_many)
same_fault parts (fault.TooManyItems list) (fault.TooManyItems other) m n h k =
    ap (λ l. fault.TooManyItems l) (same_list HasTooMany HasTooMany many_never_fine many_never_fine parts list other h k)
same_fault parts (fault.TooManyItems list) (fault.BadListItem other at) m n h k =
    absurd (no_two HasTooMany (HasBadItem at) many_never_fine (bad_never_fine at) parts list other h k (many_not_bad at))
same_fault parts (fault.BadListItem list at) (fault.DuplicateList other) m n h k =
    absurd (no_two IsRepeated (HasBadItem at) repeated_never_fine (bad_never_fine at) parts other list k h (repeated_not_bad at))
same_fault parts (fault.BadListItem list at) (fault.TooManyItems other) m n h k =
    absurd (no_two HasTooMany (HasBadItem at) many_never_fine (bad_never_fine at) parts other list k h (many_not_bad at))
same_fault parts (fault.BadListItem list at) (fault.BadListItem other place) m n h k = same_bad parts list other at place h k
same_fault parts fault.Memory b m n h k = absurd (m refl)
same_fault parts (fault.DuplicateList list) fault.Memory m n h k = absurd (n refl)
same_fault parts (fault.TooManyItems list) fault.Memory m n h k = absurd (n refl)
same_fault parts (fault.BadListItem list at) fault.Memory m n h k = absurd (n refl)

pub one_fault : ListFaultsAreUnique
one_fault parts a known h = (not_fine parts a known h, λ b also k. same_fault parts a b known also h k)
