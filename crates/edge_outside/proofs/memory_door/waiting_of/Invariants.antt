-- the links that are left and those that were taken off their end are the links given, and the former get fewer
use Rattle.std.proofs.Common.{◌≡◌, ◌++◌, length, map}
use Rattle.edge_outside.proofs.memory_door.waiting_of.Given as goal

abbrev pub invariant-loop-link : goal.invariant-loop-link
invariant-loop-link l = l.fn.links ≡ l.links ++ map (λ each. each.link) l.waiting.items

abbrev pub decreases-loop-link : goal.decreases-loop-link
decreases-loop-link l = length l.links
