-- The exchange that adds a notice keeps the rule.
use Rattle.std.proofs.Common.{◌≡◌, ℕ, ◌+◌, ◌<◌, ◌==◌, Bool, true, false, List, [], ◌∷◌, ◌++◌, length, refl, ap, sym, subst, ◌∙◌, arith, inl, length-append, None}
use Rattle.std.proofs.lemmas.List.{append-nil}
use Rattle.std.proofs.lemmas.Bool.Decides.{nat_tests}
use mathlib.Core.List.{IsPrefix}
use prog.Atomic.{either}
use Rattle.logbook.specs.Pages.{Cell, cell, keeps, no_nib, step, Moves, Goes}
use Rattle.version_store.specs.declared.notice.Notice.{Notice}
use Rattle.version_store.specs.Rules.{IsKept, Adds}
use Rattle.version_store.proofs.Fronts.{prefix_whole}

abbrev pub shown : List Notice → List Notice
shown log = []

abbrev pub moved : List Notice → List Notice → ℕ → Type 0
moved xs ys n = Unit {0}

pub adds_goes : (log seen : List Notice) (notice : Notice) (count old : ℕ) → length seen ≡ old + 1 → length log ≡ count + 1 → IsPrefix seen log
    → (b : Bool) → (count == old) ≡ b
    → Goes IsKept shown moved 0 (seen, (no_nib, None)) (λ n. either (n == old) (old + 1) n) (Adds (step 0 old (old + 1) notice) (seen, (no_nib, None))) ((count, true) ∷ []) log
adds_goes log seen notice count old len long pre true is =
    let here : count ≡ old = grind (arith, nat_tests) in
    let same : seen ≡ log = prefix_whole seen log pre (omega arith) in
    let n : either (count == old) (old + 1) count ≡ old + 1 = rw is refl in (
      keeps,
      notice ∷ [],
      None,
      tt,
      record { count = old + 1; words = ap (λ (k : ℕ). (k, true) ∷ []) n; counted = omega (arith, length-append log (notice ∷ [])) },
      inl (refl, refl),
      rw is (ap (λ w. w ++ notice ∷ []) (sym same)),
    )
adds_goes log seen notice count old len long pre false is =
    let all : log ++ [] ≡ log = append-nil log in
    let n : either (count == old) (old + 1) count ≡ count = rw is refl in (
      keeps,
      [],
      None,
      tt,
      record { count = count; words = ap (λ (k : ℕ). (k, true) ∷ []) n; counted = ap length all ∙ long },
      inl (refl, refl),
      rw is tt,
    )

-- whatever the book is, the exchange adds the notice to all that was seen, or finds that the list is longer
pub adds_moves : (seen : List Notice) (notice : Notice) (old : ℕ) → length seen ≡ old + 1
    → Moves IsKept shown moved 0 (seen, (no_nib, None)) (λ n. either (n == old) (old + 1) n) (Adds (step 0 old (old + 1) notice) (seen, (no_nib, None)))
adds_moves seen notice old len cs log kept pre away =
    let P : List Cell → Type 0 = λ c. (0 < length c) × ((cell c 0).1 ≡ true) × Goes IsKept shown moved 0 (seen, (no_nib, None)) (λ n. either (n == old) (old + 1) n) (Adds (step 0 old (old + 1) notice) (seen, (no_nib, None))) c log in
    subst P (sym kept.words) (omega arith, refl, adds_goes log seen notice kept.count old len kept.counted pre (kept.count == old) refl)
