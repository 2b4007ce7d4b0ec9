use Rattle.std.proofs.Common.{◌≡◌, map, take}
use Rattle.serde_json.specs.View.{view}
use Rattle.config_read.specs.Printed.{printed_phase}
use Rattle.config_read.proofs.printing.skips.phases_value.Given as goal

-- the values are those so far
abbrev pub invariant-loop-phase : goal.invariant-loop-phase
invariant-loop-phase l = map view l.values.items ≡ map printed_phase (take l.phase-index l.phases)
