use Rattle.std.proofs.Common.{◌≡◌, vec_len}
use Rattle.edge_main.proofs.hashers.lane_hashers.Given as goal

-- one hasher for each lane so far
abbrev pub invariant-loop-lane : goal.invariant-loop-lane
invariant-loop-lane g l = vec_len l.hashers ≡ l.lane
