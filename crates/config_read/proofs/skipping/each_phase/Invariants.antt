use Rattle.std.proofs.Common.{◌≡◌, ◌++◌, map, drop}
use Rattle.serde_json.specs.View.{view}
use Rattle.config_read.specs.Skipped.{phase_table, phase_at, phases_table}
use Rattle.config_read.proofs.EachLemmas.{Goes}
use Rattle.config_read.proofs.skipping.each_phase.Given as goal

-- the phases so far and those of the values that are left are all, and what these come to is what all come to
abbrev pub invariant-loop-value : goal.invariant-loop-value
invariant-loop-value l = record {
  phases : l.phases ++ map phase_at (map view (drop l.value-index l.values)) ≡ map phase_at (map view l.values);
  tables : Goes (phase_table l.place) phase_at l.phases (map view (drop l.value-index l.values)) (phases_table l.place (map view l.values));
}
