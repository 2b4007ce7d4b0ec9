-- How a batch begins and ends: a worker for each pass, and the lines of all, taken in turn from behind.
use Rattle.std.proofs.Common.{◌≡◌, ℕ, ◌+◌, ◌-◌, ◌<◌, ◌%◌, List, [], ◌∷◌, ◌++◌, length, map, Option, Some, option_map, slice_get, slice_set, slice_index_or, ⊎_elim, refl, sym, ap, subst, ◌∙◌, arith, append_assoc, append-nil, length-append}
use Rattle.std.proofs.lemmas.Bool.{cases_eq}
use Rattle.std.proofs.lemmas.List.{length-set, length-map, map-set, get_or-set_same, get_or-set_other, get_or_default, nil_from_length}
use Rattle.std.proofs.lemmas.Option.{slice_get-map, slice_get-get_or, same_Some}
use Rattle.rate_shared.specs.declared.seen.Seen.{Seen}
use Rattle.edge_main.specs.Batched.{AreDealt}
use Rattle.edge_main.specs.Crewed.{AreNew, AreLinesOf, lines_in, IsSameButLines, HaveGivenLines}
use Rattle.edge_main.specs.Working.{IsNew}
use Rattle.edge_main.specs.declared.working.Worker.{Worker}
use Rattle.edge_main.proofs.DealtLemmas.{dealt_last, dealt_popped}

-- ---- a worker for each pass
-- those behind the passes that are left have a worker each
pub record AreMade (number : ℕ) (left all : List Seen) (workers : List Worker) : Type 0 where
  pub made : List Seen
  pub is : all ≡ left ++ made
  pub new : AreNew number made workers
  pub count : number ≡ length left

-- one more
pub made-one : (number number' : ℕ) (left left' all : List Seen) (workers : List Worker) (one : Worker) (seen : Seen) → AreMade number left all workers
    → left ≡ left' ++ seen ∷ [] → number' + 1 ≡ number → IsNew number' seen one → AreMade number' left' all (one ∷ workers)
made-one number number' left left' all workers one seen had is less new = record {
  made = seen ∷ had.made;
  is = had.is ∙ ap (λ (seens : List Seen). seens ++ had.made) is ∙ append_assoc left' (seen ∷ []) had.made;
  new = (new, subst (λ n. AreNew n had.made workers) (sym less) had.new);
  count = omega (arith, had.count, less, ap length is, length-append left' (seen ∷ []));
}

-- ---- the lines of all
-- these were taken, the latest first, and so many are left
pub record AreTaken (left : ℕ) (before now : List Worker) (lines : List (List ℕ)) : Type 0 where
  pub rest : List (List ℕ)
  pub all : AreDealt (lines ++ rest) (lines_in before)
  pub dealt : AreDealt rest (lines_in now)
  pub long : length rest ≡ left

-- the one that was dealt last
record LastLine (left : ℕ) (before now : List Worker) (lines : List (List ℕ)) : Type 0 where
  one : List ℕ
  earlier : List (List ℕ)
  all : AreDealt (lines ++ one ∷ earlier) (lines_in before)
  dealt : AreDealt (one ∷ earlier) (lines_in now)
  long : length earlier + 1 ≡ left

last-of : (left : ℕ) (before now : List Worker) (lines rest : List (List ℕ)) → 0 < left → AreDealt (lines ++ rest) (lines_in before)
    → AreDealt rest (lines_in now) → length rest ≡ left → LastLine left before now lines
last-of left before now lines [] some all dealt long = absurd (omega (arith, some, long))
last-of left before now lines (one ∷ earlier) some all dealt long =
    record { one = one; earlier = earlier; all = all; dealt = dealt; long = omega (arith, long) }

module _ (left left' place : ℕ) (before now : List Worker) (lines : List (List ℕ)) (d : Worker) (had : AreTaken left before now lines) (some : 0 < left)
    (less : left' ≡ left - 1) (is : place ≡ left' % length now) (within : place < length now) where
  abbrev last : LastLine left before now lines
  last = last-of left before now lines had.rest some had.all had.dealt had.long

  its-place : length last.earlier % length (lines_in now) ≡ place
  its-place =
      let earlier : length last.earlier ≡ left' = omega (arith, last.long, less) in
      ap (λ n. length last.earlier % n) (length-map now (λ (worker : Worker). worker.lines.items)) ∙ ap (λ n. n % length now) earlier ∙ sym is

  its-column : slice_get (lines_in now) place ≡ Some (slice_index_or now place d).lines.items
  its-column =
      slice_get-map (λ (worker : Worker). worker.lines.items) now place
      ∙ ap (option_map (λ (worker : Worker). worker.lines.items)) (slice_get-get_or now place d within)

  -- there is a line to take
  pub line-there : 0 < length (slice_index_or now place d).lines.items
  line-there =
      let ends = dealt_last last.one last.earlier (lines_in now) last.dealt in
      let column =
      same_Some (slice_index_or now place d).lines.items (ends.column ++ last.one ∷ [])
      (sym its-column ∙ ap (λ p. slice_get (lines_in now) p) (sym its-place) ∙ ends.at) in
      omega (arith, ap length column, length-append ends.column (last.one ∷ []))

  -- it was taken
  pub taken-one : (new : Worker) (line : List ℕ) (lines' : List (List ℕ)) → (slice_index_or now place d).lines.items ≡ new.lines.items ++ line ∷ []
      → lines' ≡ lines ++ line ∷ [] → AreTaken left' before (slice_set now place new) lines'
  taken-one new line lines' popped pushed =
      let at = ap (λ p. slice_get (lines_in now) p) its-place ∙ its-column ∙ ap Some popped in
      let one = dealt_popped last.one last.earlier (lines_in now) new.lines.items line last.dealt at in
      let whole : lines ++ (last.one ∷ last.earlier) ≡ lines' ++ last.earlier =
      ap (λ l. lines ++ (l ∷ last.earlier)) (sym one.0) ∙ sym (append_assoc lines (line ∷ []) last.earlier)
      ∙ ap (λ (ls : List (List ℕ)). ls ++ last.earlier) (sym pushed) in
      record {
        rest = last.earlier;
        all = subst (λ ls. AreDealt ls (lines_in before)) whole last.all;
        dealt =
            subst (AreDealt last.earlier)
            (ap (λ p. slice_set (lines_in now) p new.lines.items) its-place ∙ sym (map-set (λ (worker : Worker). worker.lines.items) now place new)) one.1;
        long = omega (arith, last.long, less);
      }

-- all were taken
pub taken-all : (left dealt : ℕ) (before now : List Worker) (lines : List (List ℕ)) → AreTaken left before now lines → left ≡ 0
    → length lines + left ≡ dealt → AreLinesOf dealt before lines × AreDealt [] (lines_in now)
taken-all left dealt before now lines had none count =
    let nothing : had.rest ≡ [] = nil_from_length had.rest (had.long ∙ none) in (
      (
        subst (λ ls. AreDealt ls (lines_in before)) (ap (λ ls. lines ++ ls) nothing ∙ append-nil lines) had.all,
        omega (arith, count, none),
      ),
      subst (λ ls. AreDealt ls (lines_in now)) nothing had.dealt,
    )

-- ---- what the workers keep
lines-then : (a b c : Worker) → IsSameButLines a b → IsSameButLines b c → IsSameButLines a c
lines-then a b c p q = record { number = q.number ∙ p.number; pass = q.pass ∙ p.pass; jobs = q.jobs ∙ p.jobs; fault = q.fault ∙ p.fault }

-- one gave a line
module _ (before now : List Worker) (place : ℕ) (d new : Worker) (had : HaveGivenLines before now) (within : place < length now)
    (same : IsSameButLines (slice_index_or now place d) new) where
  given-here : (k : ℕ) (e : Worker) → k ≡ place → IsSameButLines (slice_index_or before k e) (slice_index_or (slice_set now place new) k e)
  given-here k e at =
      subst (λ i. IsSameButLines (slice_index_or before i e) (slice_index_or (slice_set now place new) i e)) (sym at)
      (subst (λ b. IsSameButLines (slice_index_or before place e) b) (sym (get_or-set_same now place new e within))
      (lines-then (slice_index_or before place e) (slice_index_or now place d) new
      (subst (λ b. IsSameButLines (slice_index_or before place e) b) (get_or_default now place e d within) (had.each place e (omega (arith, within, had.count))))
      same))

  pub given-one : HaveGivenLines before (slice_set now place new)
  given-one = record {
    count = length-set now place new ∙ had.count;
    each = λ k e below.
        ⊎_elim (λ at. given-here k e at)
        (λ other.
        subst (λ b. IsSameButLines (slice_index_or before k e) b) (sym (get_or-set_other now place k new e other)) (had.each k e below)) (cases_eq k place);
  }
