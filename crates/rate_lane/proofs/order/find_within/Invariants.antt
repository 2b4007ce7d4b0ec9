use Rattle.std.proofs.Common.{◌*◌, ◌-◌, ◌<◌, ◌≤◌}
use Rattle.rate_lane.specs.Order.{node_of}
use Rattle.rate_lane.proofs.order.find_within.Given as goal

-- the node's number is low enough, and it lies further down at each turn
abbrev pub invariant-loop-node : goal.invariant-loop-node
invariant-loop-node l = record {
  some_node : 1 ≤ l.node;
  within : l.node < 2 * l.places;
  low : node_of l.nodes l.node ≤ l.most;
}

-- the node is nearer to the places
abbrev pub decreases-loop-node : goal.decreases-loop-node
decreases-loop-node l = 2 * l.places - l.node
