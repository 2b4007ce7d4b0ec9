-- the borders so far are known, and the last of them is kept
use Rattle.std.proofs.Common.{◌≡◌, ◌+◌, length}
use Rattle.text_match.specs.Borders.{IsBorder, AreBorders}
use Rattle.text_match.proofs.needle.borders_of.Given as goal

abbrev pub invariant-loop-byte : goal.invariant-loop-byte
invariant-loop-byte l = record {
  as_many : length l.borders.items ≡ l.byte-index + 1;
  known : AreBorders l.piece l.borders.items;
  last : IsBorder l.piece (l.byte-index + 1) l.size;
}
