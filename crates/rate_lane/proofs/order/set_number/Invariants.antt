use Rattle.std.proofs.Common.{◌≡◌, ◌*◌, ◌<◌, length, drop, set}
use Rattle.rate_lane.proofs.OrderLemmas.{IsTreeBut}
use Rattle.rate_lane.proofs.order.set_number.Given as goal

-- only the next node is still to be mended
abbrev pub invariant-loop-node : goal.invariant-loop-node
invariant-loop-node l = record {
  within : l.node < l.places;
  whole : length l.nodes ≡ 2 * l.places;
  mended : IsTreeBut l.places l.node l.nodes;
  numbers : drop l.places l.nodes ≡ set (drop l.places l.fn.nodes) l.fn.place l.fn.number;
}

-- the node is nearer to the top
abbrev pub decreases-loop-node : goal.decreases-loop-node
decreases-loop-node l = l.node
