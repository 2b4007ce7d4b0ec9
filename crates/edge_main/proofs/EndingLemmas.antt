-- How a run of several workers ends: without a cause for another status the input was judged whole.
use Rattle.std.proofs.Common.{◌≡◌, ◌≢◌, ℕ, ◌+◌, ◌<◌, ◌^◌, ◌↔◌, ◌⊎◌, Bool, true, false, not, List, [], ◌++◌, length, length-append, Option, Some, inl, inr, refl, sym, ap, subst, arith}
use Rattle.std.specs.Prelude.{IsTrue}
use Rattle.std.specs.Io.KnownBytes.{Consumes}
use Rattle.edge_outside.specs.Faults.{Rose}
use Rattle.edge_outside.specs.Reading.{HoldsLine}
use Rattle.edge_outside.specs.declared.line_reader.LineReader.{LineReader}
use Rattle.edge_main.specs.Ended.{TookInput, IsComplete}
use Rattle.edge_main.specs.declared.statuses.Status.{Status}
use Rattle.edge_main.specs.declared.statuses.Status.TheVariants as status

-- after a turn nothing is pending, or the next line stands whole
pub written-or-whole : (held : Bool) (pending : List ℕ) (mid new : LineReader) → new ≡ mid → IsTrue held ↔ HoldsLine mid → (IsTrue (not held) → pending ≡ [])
    → (pending ≡ []) ⊎ HoldsLine new
written-or-whole true pending mid new same holds due = inr (subst HoldsLine (sym same) (holds.0 refl))
written-or-whole false pending mid new same holds due = inl (due refl)

-- no more was taken than there was
taken-within : (before after : Option (List ℕ)) (bytes text rest : List ℕ) → Consumes before after bytes → before ≡ Some text → after ≡ Some rest
    → length text ≡ length bytes + length rest
taken-within before after bytes text rest took is_text is_rest =
    let known : Consumes (Some text) (Some rest) bytes =
    subst (λ b. Consumes b (Some rest) bytes) is_text (subst (λ a. Consumes before a bytes) is_rest took) in
    let whole : text ≡ bytes ++ rest = known in
    subst (λ n. length text ≡ n) (length-append bytes rest) (ap length whole)

pub is-complete : {I O : Type 0} (reads : I → ℕ) (left : I → Option (List ℕ)) (writes : O → ℕ) (ended : Status) (input input' : I) (out out' : O)
    (taken taken' : Option (List ℕ)) → (ended ≡ status.ReadFault → Rose (reads input) (reads input'))
    → (ended ≡ status.WriteFault → Rose (writes out) (writes out')) → TookInput (left input) (left input') taken taken' ended
    → (ended ≢ status.Usage) × (ended ≢ status.AcceptFault) → IsComplete reads left writes ended input input' out out'
is-complete reads left writes status.Done input input' out out' taken taken' read write took plain no_usage no_read no_write text rest is is' short = inl (inl refl)
is-complete reads left writes status.Usage input input' out out' taken taken' read write took plain no_usage no_read no_write text rest is is' short =
    absurd (no_usage refl)
is-complete reads left writes status.BadItems input input' out out' taken taken' read write took plain no_usage no_read no_write text rest is is' short = inl (inr refl)
is-complete reads left writes status.ReadFault input input' out out' taken taken' read write took plain no_usage no_read no_write text rest is is' short =
    absurd (no_read (read refl))
is-complete reads left writes status.WriteFault input input' out out' taken taken' read write took plain no_usage no_read no_write text rest is is' short =
    absurd (no_write (write refl))
is-complete reads left writes status.Memory input input' out out' taken taken' read write took plain no_usage no_read no_write text rest is is' short =
    inr (inl refl)
is-complete reads left writes status.AcceptFault input input' out out' taken taken' read write took plain no_usage no_read no_write text rest is is' short =
    absurd (plain.1 refl)
is-complete reads left writes status.LongInput input input' out out' taken taken' read write took plain no_usage no_read no_write text rest is is' short =
    let all : length took.bytes ≡ 2 ^ 40 = took.limit.0 refl in
    let within = taken-within (left input) (left input') took.bytes text rest took.left is is' in
    absurd (omega (arith, all, within, short))
is-complete reads left writes status.Spent input input' out out' taken taken' read write took plain no_usage no_read no_write text rest is is' short =
    inr (inr refl)
