-- the texts before the next one are in the array
use Rattle.std.proofs.Common.{◌≡◌, map, take}
use Rattle.edge_fields.specs.declared.value.Value.TheVariants as value
use Rattle.tree_eval.proofs.indexes.texts.Given as goal

abbrev pub invariant-loop-text : goal.invariant-loop-text
invariant-loop-text l = l.values ≡ map value.Text (take l.text-index l.items)
