use Rattle.std.proofs.Common.{◌≡◌, map, take}
use Rattle.serde_json.specs.View.{view}
use Rattle.config_read.specs.Printed.{printed_list}
use Rattle.config_read.proofs.printing.lists.lists_value.Given as goal

-- the values are those of the lists so far
abbrev pub invariant-loop-list : goal.invariant-loop-list
invariant-loop-list l = map view l.values.items ≡ map printed_list (take l.list-index l.lists)
