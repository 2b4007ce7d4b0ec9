use Rattle.std.proofs.Common.{◌≡◌, map, take}
use Rattle.serde_json.specs.View.{view}
use Rattle.config_read.specs.Printed.{printed_entry}
use Rattle.config_read.proofs.printing.executions.entries_value.Given as goal

-- the values are those so far
abbrev pub invariant-loop-of : goal.invariant-loop-of
invariant-loop-of l = map view l.values.items ≡ map (printed_entry l.name) (take l.of-index l.entries)
