use Rattle.std.proofs.Common.{◌≡◌, map, take}
use Rattle.serde_json.specs.View.{view}
use Rattle.config_read.specs.Printed.{printed_rule}
use Rattle.config_read.proofs.printing.rules.rules_value.Given as goal

-- the values are those so far
abbrev pub invariant-loop-rule : goal.invariant-loop-rule
invariant-loop-rule l = map view l.values.items ≡ map (printed_rule l.sets) (take l.rule-index l.rules)
