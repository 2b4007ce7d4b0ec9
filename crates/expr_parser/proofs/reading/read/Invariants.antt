use Rattle.std.proofs.Common.{◌≡◌, length}
use Rattle.std.specs.Vec.Iter.{into_iter_items, into_iter_len}
use Rattle.expr_parser.proofs.Places.{Going}
use Rattle.expr_parser.proofs.reading.read.Given as goal

-- how far the loop has come, and that the iterator counts what is left
abbrev pub invariant-loop-terminal : goal.invariant-loop-terminal
invariant-loop-terminal l = record {
  going : Going (into_iter_items l.initial.terminal-iterator) (into_iter_items l.terminal-iterator) l.at l.state;
  left : into_iter_len l.terminal-iterator ≡ length (into_iter_items l.terminal-iterator);
}
