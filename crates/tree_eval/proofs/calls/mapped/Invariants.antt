-- what the elements before the next one give
use Rattle.std.proofs.Common.{◌≡◌, take}
use Rattle.std.specs.List.{filter_map}
use Rattle.tree_eval.specs.Calls.{result_of}
use Rattle.tree_eval.proofs.calls.mapped.Given as goal

abbrev pub invariant-loop-item : goal.invariant-loop-item
invariant-loop-item l = l.results ≡ filter_map (result_of l.id l.further) (take l.item-index l.items)
