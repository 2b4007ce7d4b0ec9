use Rattle.std.proofs.Common.{◌≡◌, All}
use Rattle.rate_shared.specs.Hands.{SitsAt}
use Rattle.rate_shared.proofs.GatherLemmas.{Joined}
use Rattle.rate_shared.proofs.gathering.gather.Given as goal

-- the seat has taken in all callers but those that are left
abbrev pub invariant-loop-seen : goal.invariant-loop-seen
invariant-loop-seen l = record {
  table : l.seat.table_id ≡ l.board.table_id;
  left : All (λ seen. SitsAt l.board.table_id l.board.key seen.seat) l.seens.items;
  joined : Joined l.board.key l.fn.seens.items l.seens.items l.seat.me;
}

abbrev pub decreases-loop-seen : goal.decreases-loop-seen
decreases-loop-seen l = goal.left-loop-seen l
