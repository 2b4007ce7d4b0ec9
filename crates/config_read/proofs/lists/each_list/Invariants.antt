use Rattle.std.proofs.Common.{◌≡◌, ◌++◌, map, drop}
use Rattle.serde_json.specs.View.{view}
use Rattle.edge_fields.specs.Schemes.{AreLists}
use Rattle.list_store.specs.Listed.{list_kinds_of}
use Rattle.config_read.specs.ListsOf.{list_table, list_at, each_list_table}
use Rattle.config_read.proofs.EachLemmas.{Goes}
use Rattle.config_read.proofs.lists.each_list.Given as goal

-- the lists so far and those of the values that are left are all, and what these come to is what all come to
abbrev pub invariant-loop-value : goal.invariant-loop-value
invariant-loop-value l = record {
  lists : l.lists ++ map list_at (map view (drop l.value-index l.values)) ≡ map list_at (map view l.values);
  tables : Goes (list_table l.place) list_at l.lists (map view (drop l.value-index l.values)) (each_list_table l.place (map view l.values));
  named : AreLists (list_kinds_of l.lists);
}
