use Rattle.std.proofs.Common.{◌≡◌, ◌++◌, drop}
use Rattle.std.specs.Io.{StartsWith}
use Rattle.trace_form.specs.Line.{steps_text}
use Rattle.trace_form.proofs.steps.push_steps.Given as goal

-- what was written and the steps that are left make the whole
abbrev pub invariant-loop-counted : goal.invariant-loop-counted
invariant-loop-counted l = record {
  whole : l.out ++ steps_text (drop l.counted-index l.counts) ≡ l.fn.out ++ steps_text l.counts;
  begins : StartsWith l.out l.fn.out;
}
