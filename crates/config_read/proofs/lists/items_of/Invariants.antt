use Rattle.std.proofs.Common.{◌≡◌, ◌++◌, map, drop}
use Rattle.serde_json.specs.View.{view}
use Rattle.config_read.specs.Members.{text_of}
use Rattle.config_read.specs.ListsOf.{item_table, items_table}
use Rattle.config_read.proofs.EachLemmas.{Goes}
use Rattle.config_read.proofs.lists.items_of.Given as goal

-- the items so far and those of the values that are left are all, and what these come to is what all come to
abbrev pub invariant-loop-value : goal.invariant-loop-value
invariant-loop-value l = record {
  items : l.items ++ map text_of (map view (drop l.value-index l.values)) ≡ map text_of (map view l.values);
  tables : Goes (item_table l.kind l.place) text_of l.items (map view (drop l.value-index l.values)) (items_table l.kind l.place (map view l.values));
}
