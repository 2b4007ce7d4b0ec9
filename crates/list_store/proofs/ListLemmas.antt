-- Lists one by one.
use Rattle.std.proofs.Common.{◌≡◌, ℕ, zero, suc, ◌+◌, ◌<◌, List, [], ◌∷◌, length, get_or, take, refl, ap, inl, inr, arith}
use Rattle.std.specs.List.{AllZip}
use Rattle.std.proofs.lemmas.Bool.{cases_lt}
use Rattle.std.proofs.lemmas.List.{get_or_default}
use Rattle.list_store.specs.declared.part.ListPart.{ListPart}
use Rattle.list_store.specs.declared.members.Members.{Members}
use Rattle.list_store.specs.Parts.{IsFine, AreFineBefore}
use Rattle.list_store.specs.Members.{AreMembersOf}

pub AreFineBefore-more : (parts : List ListPart) (i : ℕ) (e : ListPart) → i < length parts → AreFineBefore parts i → IsFine (take i parts) (get_or parts i e) → AreFineBefore parts (i + 1)
AreFineBefore-more parts i e within before here k d low =
    elim (cases_lt k i) [
      | inl earlier ↦ before k d earlier
      | inr later ↦
          let same : k ≡ i = omega arith in
          rw (same, get_or_default parts i d e within) here
    ]

-- what belongs to the list at a place
pub AllZip-place : (parts : List ListPart) (made : List Members) (i : ℕ) (d : ListPart) (e : Members) → AllZip AreMembersOf parts made → i < length parts → AreMembersOf (get_or parts i d) (get_or made i e)
AllZip-place [] made i d e h below = absurd (omega arith)
AllZip-place (part ∷ parts) [] i d e h below = absurd h
AllZip-place (part ∷ parts) (m ∷ made) zero d e h below = h.0
AllZip-place (part ∷ parts) (m ∷ made) (suc i) d e h below = AllZip-place parts made i d e h.1 (omega arith)

pub length-zip : (parts : List ListPart) (made : List Members) → AllZip AreMembersOf parts made → length made ≡ length parts
length-zip [] [] h = refl
length-zip [] (m ∷ made) h = absurd h
length-zip (part ∷ parts) [] h = absurd h
length-zip (part ∷ parts) (m ∷ made) h = ap suc (length-zip parts made h.1)

-- what is kept of the list at a place
pub AreMembersOf-at : (parts now : List ListPart) (made : List Members) (list : ℕ) (d : ListPart) (m : Members) → parts ≡ now → AllZip AreMembersOf parts made → list < length now → m ≡ get_or made list m → AreMembersOf (get_or now list d) m
AreMembersOf-at parts now made list d m same h within is =
    let place = AllZip-place parts made list d m h (rw same within) in
    rw is (rw same at place)

pub first_part : (parts : List ListPart) (list : ℕ) → list < length parts → ListPart
first_part [] list within = absurd (omega arith)
first_part (part ∷ parts) list within = part
