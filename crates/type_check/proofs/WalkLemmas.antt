-- Answers for what was found, put together from the parts.
use Rattle.std.proofs.Common.{◌≡◌, ℕ, Bool, true, false, not, ◌&&◌, inl, inr, List, [], ◌∷◌, ◌++◌, Option, None, Some, refl, sym, ap, ◌∙◌}
use Rattle.std.specs.Option.{option_map}
use Rattle.type_check.specs.declared.fault.Fault.{Fault}
use Rattle.type_check.specs.declared.fault.TypeCause.{TypeCause}
use Rattle.type_check.specs.declared.fault.TypeCause.TheVariants as cause
use Rattle.type_check.specs.declared.sort.Mark.{Mark}
use Rattle.type_check.specs.declared.sort.Sort.{Sort}
use Rattle.type_check.specs.declared.sort.Stand.{Stand}
use Rattle.type_check.specs.Building.{IsRefusedOrNot}
use Rattle.type_check.specs.Checking.{Finding, fault, pattern, Report, is_clean, reported, mismatch, IsAnswer}
use Rattle.type_check.specs.Judging.{IsFaulty}
use Rattle.type_check.specs.Sorts.{suits}
use Rattle.type_check.specs.TestKinds.{head_of, where_so}

pub answer-front : (some more : List Finding) (f : Fault) → IsAnswer some (Some f) → IsAnswer (some ++ more) (Some f)
answer-front [] more f h = absurd cc
answer-front (fault n c ∷ some) more f h = h
answer-front (pattern n text ∷ some) more f (inl h) = inl h
answer-front (pattern n text ∷ some) more f (inr h) = inr (h.0, answer-front some more f h.1)

pub answer-behind : (some more : List Finding) (a : Option Fault) → IsAnswer some None → IsAnswer more a → IsAnswer (some ++ more) a
answer-behind [] more a none h = h
answer-behind (fault n c ∷ some) more a none h = absurd cc
answer-behind (pattern n text ∷ some) more a (inl none) h = absurd cc
answer-behind (pattern n text ∷ some) more a (inr none) h = inr (none.0, answer-behind some more a none.1 h)

pub clean-append : (some more : List Finding) → is_clean some ≡ true → is_clean (some ++ more) ≡ is_clean more
clean-append [] more h = refl
clean-append (fault n c ∷ some) more h = absurd cc
clean-append (pattern n text ∷ some) more h = clean-append some more h

pub unclean-front : (some more : List Finding) → is_clean some ≡ false → is_clean (some ++ more) ≡ false
unclean-front [] more h = absurd cc
unclean-front (fault n c ∷ some) more h = refl
unclean-front (pattern n text ∷ some) more h = unclean-front some more h

abbrev pub at : Mark → TypeCause → Fault
at m c = record { node = m.node; cause = c }

-- the first cause of a node is the answer
pub own_cause : (m : Mark) (causes : List TypeCause) (own : Option (List ℕ)) (below : Report) (c : TypeCause) → head_of causes ≡ Some c → IsFaulty (reported m causes own below).found (at m c)
own_cause m [] own below c h = absurd cc
own_cause m (d ∷ causes) None below c h = record { faulty = refl; is_answer = sym (ap (option_map (at m)) h) }
own_cause m (d ∷ causes) (Some text) below c h = record { faulty = refl; is_answer = sym (ap (option_map (at m)) h) }

-- the refusal of a node's own pattern comes next
pub own_refused : (m : Mark) (own : Option (List ℕ)) (below : Report) (c : TypeCause) → IsRefusedOrNot own (Some c) → IsAnswer (reported m [] own below).found (Some (at m c))
own_refused m None below c h = absurd cc
own_refused m (Some text) below c h = inl (c, h, refl)

-- and then the answer for the parts
pub own_built : (m : Mark) (own : Option (List ℕ)) (below : Report) (a : Option Fault) → IsRefusedOrNot own None → IsAnswer below.found a → IsAnswer (reported m [] own below).found a
own_built m None below a built h = h
own_built m (Some text) below a built h = inr (built, h)

pub clean-reported : (m : Mark) (own : Option (List ℕ)) (below : Report) → is_clean (reported m [] own below).found ≡ is_clean below.found
clean-reported m None below = refl
clean-reported m (Some text) below = refl

pub mark-reported : (m : Mark) (causes : List TypeCause) (own : Option (List ℕ)) (below : Report) → (reported m causes own below).mark ≡ below.mark
mark-reported m causes None below = refl
mark-reported m causes (Some text) below = refl

pub mismatch-suited : (place : Stand) (below : List Finding) (s : Option Sort) → suits place s ≡ true → mismatch place below s ≡ []
mismatch-suited place below s h = ap (λ suited. where_so (is_clean below && not suited) cause.Mismatch) h ∙ none (is_clean below)
  where
    none : (b : Bool) → where_so (b && not true) cause.Mismatch ≡ []
    none true = refl
    none false = refl

pub mismatch-unsuited : (place : Stand) (below : List Finding) (s : Option Sort) → is_clean below ≡ true → suits place s ≡ false → mismatch place below s ≡ cause.Mismatch ∷ []
mismatch-unsuited place below s clean h = λ i. where_so (clean i && not (h i)) cause.Mismatch

pub mismatch-faulty : (place : Stand) (below : List Finding) (s : Option Sort) → is_clean below ≡ false → mismatch place below s ≡ []
mismatch-faulty place below s faulty = ap (λ clean. where_so (clean && not (suits place s)) cause.Mismatch) faulty
