use Rattle.std.proofs.Common.{◌≡◌, ◌+◌, length}
use Rattle.edge_main.specs.Crewed.{HaveGivenLines}
use Rattle.edge_main.proofs.BatchLemmas.{AreTaken}
use Rattle.edge_main.proofs.batch.take_lines.Given as goal

-- the latest lines were taken, and the workers hold the others
abbrev pub invariant-lines : goal.invariant-lines
invariant-lines l = record {
  taken : AreTaken l.left l.fn.workers l.workers l.lines.items;
  given : HaveGivenLines l.fn.workers l.workers;
  dealt : length l.lines.items + l.left ≡ l.dealt;
}

abbrev pub decreases-lines : goal.decreases-lines
decreases-lines l = l.left
