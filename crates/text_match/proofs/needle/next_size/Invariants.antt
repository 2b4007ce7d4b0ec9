-- the front was matched, and nothing longer goes on with the byte
use Rattle.std.proofs.Common.{◌≤◌}
use Rattle.text_match.specs.Borders.{IsEnd}
use Rattle.text_match.proofs.BorderLemmas.{AreWithin}
use Rattle.text_match.proofs.needle.next_size.Given as goal

abbrev pub invariant-loop-size : goal.invariant-loop-size
invariant-loop-size l = record {
  within : l.front ≤ l.fn.size;
  ends : IsEnd l.piece l.fn.size l.front;
  bound : AreWithin l.piece l.fn.size l.byte l.front;
}

abbrev pub decreases-loop-size : goal.decreases-loop-size
decreases-loop-size l = l.front
