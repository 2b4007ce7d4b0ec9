use Rattle.std.proofs.Common.{◌≡◌, take}
use Rattle.edge_fields.proofs.scheme.copy_lists.Given as goal

abbrev pub invariant-loop-name : goal.invariant-loop-name
invariant-loop-name l = l.copy ≡ take l.name-index l.lists
