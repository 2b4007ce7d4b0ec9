use Rattle.std.proofs.Common.{◌≡◌, ◌≤◌, length}
use Rattle.indexmap.specs.IndexMap.{spare}
use Rattle.rate_plain.specs.KeyParts.{KeyParts}
use Rattle.rate_lane.specs.Index.{state_of, IsOrdered, low_count, live_at}
use Rattle.rate_lane.proofs.index.sweep.Given as goal

-- no live key was taken out
abbrev pub invariant-loop-place : goal.invariant-loop-place
invariant-loop-place l = record {
  ordered : IsOrdered l.index.entries l.order;
  places : length l.order ≡ length l.fn.order;
  live : (key : KeyParts) → live_at l.at (state_of l.index.entries key) ≡ live_at l.at (state_of l.fn.index.entries key);
  spare : spare l.fn.index ≤ spare l.index;
}

-- fewer keys may be dead
abbrev pub decreases-loop-place : goal.decreases-loop-place
decreases-loop-place l = low_count l.at l.order
