use Rattle.std.proofs.Common.{◌≡◌}
use Rattle.edge_outside.specs.Lines.{lines_of}
use Rattle.trace_form.specs.Made.{making}
use Rattle.edge_main.specs.Making.{made_lines}
use Rattle.edge_main.specs.Trying.{IsTriedBy}
use Rattle.edge_main.proofs.trial.try_lines.Given as goal

-- the generator stands before the next line, and those before it were tried
abbrev pub invariant-loop-index : goal.invariant-loop-index
invariant-loop-index l = record {
  made : l.made ≡ making l.seed l.index;
  tried : IsTriedBy l.trial (lines_of (made_lines l.seed l.index));
  lines : l.trial.run.lines ≡ l.index;
}
