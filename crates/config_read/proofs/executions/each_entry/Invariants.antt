use Rattle.std.proofs.Common.{◌≡◌, ◌++◌, map, drop}
use Rattle.serde_json.specs.View.{view}
use Rattle.config_read.specs.Executions.{entry_table, entry_at, each_entry_table}
use Rattle.config_read.proofs.EachLemmas.{Goes}
use Rattle.config_read.proofs.executions.each_entry.Given as goal

-- the entries so far and those of the values that are left are all, and what these come to is what all come to
abbrev pub invariant-loop-value : goal.invariant-loop-value
invariant-loop-value l = record {
  entries : l.entries ++ map (entry_at l.name) (map view (drop l.value-index l.values)) ≡ map (entry_at l.name) (map view l.values);
  tables : Goes (entry_table l.name l.place) (entry_at l.name) l.entries (map view (drop l.value-index l.values)) (each_entry_table l.name l.place (map view l.values));
}
