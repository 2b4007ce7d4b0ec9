use Rattle.std.proofs.Common.{◌≡◌, ◌++◌, map, drop}
use Rattle.serde_json.specs.View.{view}
use Rattle.config_read.specs.Members.{text_of}
use Rattle.config_read.specs.Judged.{judged}
use Rattle.config_read.specs.Limits.{sources_of, characteristic_table, each_characteristic_table}
use Rattle.std.specs.List.{AllByRecursion}
use Rattle.config_read.specs.Filters.{IsCharacteristicBuilt}
use Rattle.config_read.proofs.EachLemmas.{Goes}
use Rattle.config_read.proofs.limits.each_characteristic.Given as goal

-- the characteristics so far and those of the values that are left are all, and what these come to is what all come to
abbrev pub invariant-loop-value : goal.invariant-loop-value
invariant-loop-value l = record {
  texts : sources_of l.made ++ map text_of (map view (drop l.value-index l.values)) ≡ map text_of (map view l.values);
  tables : Goes (characteristic_table (judged l.scheme) l.place) text_of (sources_of l.made) (map view (drop l.value-index l.values)) (each_characteristic_table (judged l.scheme) l.place (map view l.values));
  built : AllByRecursion (IsCharacteristicBuilt l.scheme) l.made;
}
