use Rattle.std.proofs.Common.{◌≡◌}
use Rattle.trace_form.specs.Made.{making}
use Rattle.edge_main.specs.Making.{AddsLines}
use Rattle.edge_main.proofs.making.push_lines.Given as goal

-- the generator stands before the next line, and the lines before it were added
abbrev pub invariant-loop-index : goal.invariant-loop-index
invariant-loop-index l = record {
  made : l.made ≡ making l.seed l.index;
  lines : AddsLines l.seed l.from l.index l.fn.lines l.lines;
}
