use Rattle.std.proofs.Common.{◌≡◌, map, take}
use Rattle.serde_json.specs.Data.{string}
use Rattle.serde_json.specs.View.{view}
use Rattle.ruleset_model.specs.declared.limit.Characteristic.{Characteristic}
use Rattle.config_read.proofs.printing.limits.sources_value.Given as goal

-- the values are those of the texts so far
abbrev pub invariant-loop-one : goal.invariant-loop-one
invariant-loop-one l = map view l.values.items ≡ map string (map (λ (one : Characteristic). one.source) (take l.one-index l.characteristics))
