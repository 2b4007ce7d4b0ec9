use Rattle.std.proofs.Common.{◌≡◌, ℕ, ◌≤◌, length}
use Rattle.rate_lane.specs.KeyState.{counted_among, Ascends}
use Rattle.rate_lane.proofs.key_state.forget.Given as goal

-- what was taken out so far doesn't count any more
abbrev pub invariant-loop-at : goal.invariant-loop-at
invariant-loop-at l = record {
  counted : (later : ℕ) → l.at ≤ later → counted_among l.key.period later l.moments.items ≡ counted_among l.key.period later l.fn.moments.items;
  ascends : (to : ℕ) → Ascends 0 l.fn.moments.items to → Ascends 0 l.moments.items to;
  fewer : length l.moments.items ≤ length l.fn.moments.items;
  places : l.moments.capacity ≡ l.fn.moments.capacity;
}

abbrev pub decreases-loop-at : goal.decreases-loop-at
decreases-loop-at l = length l.moments.items
