use Rattle.std.proofs.Common.{◌≡◌, map, take}
use Rattle.serde_json.specs.View.{view}
use Rattle.config_read.specs.Printed.{printed_set}
use Rattle.config_read.proofs.printing.document.sets_value.Given as goal

-- the values are those so far
abbrev pub invariant-loop-set : goal.invariant-loop-set
invariant-loop-set l = map view l.values.items ≡ map (printed_set l.sets) (take l.set-index l.sets)
