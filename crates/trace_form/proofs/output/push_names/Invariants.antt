use Rattle.std.proofs.Common.{◌≡◌, ◌++◌, drop}
use Rattle.std.specs.Io.{StartsWith}
use Rattle.trace_form.specs.Line.{names_text}
use Rattle.trace_form.proofs.output.push_names.Given as goal

-- what was written and the names that are left make the whole
abbrev pub invariant-loop-name : goal.invariant-loop-name
invariant-loop-name l = record {
  whole : l.out ++ names_text (drop l.name-index l.names) ≡ l.fn.out ++ names_text l.names;
  begins : StartsWith l.out l.fn.out;
}
