use Rattle.std.proofs.Common.{◌≡◌, [], ◌++◌, All, length}
use Rattle.rate_lane.specs.Lane.{cap_of, IsLaneOf}
use Rattle.rate_lane.proofs.lanes.lanes_of.Given as goal

-- a lane for each hasher so far
abbrev pub invariant-loop-hasher : goal.invariant-loop-hasher
invariant-loop-hasher l = record {
  count : length l.lanes.items ≡ length l.yielded;
  left : l.yielded ++ l.hasher-iterator.rest.items ≡ l.fn.hashers.items;
  empty : All (λ lane. (cap_of lane ≡ l.cap) × IsLaneOf lane []) l.lanes.items;
}
