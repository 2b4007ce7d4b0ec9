use Rattle.std.proofs.Common.{◌≡◌, ◌++◌, map, drop}
use Rattle.serde_json.specs.View.{view}
use Rattle.config_read.specs.Members.{text_of, a_text, each_text}
use Rattle.config_read.proofs.EachLemmas.{Goes}
use Rattle.config_read.proofs.members.each_text.Given as goal

-- the texts so far and those of the values that are left are all, and what these come to is what all come to
abbrev pub invariant-loop-value : goal.invariant-loop-value
invariant-loop-value l = record {
  texts : l.texts ++ map text_of (map view (drop l.value-index l.values)) ≡ map text_of (map view l.values);
  tables : Goes (a_text l.place) text_of l.texts (map view (drop l.value-index l.values)) (each_text l.place (map view l.values));
}
