use Rattle.std.proofs.Common.{◌≡◌, ◌++◌, map, drop}
use Rattle.serde_json.specs.View.{view}
use Rattle.ruleset_model.specs.Data.{set_data}
use Rattle.config_read.specs.Judged.{judged}
use Rattle.config_read.specs.Ids.{AreSetIdsOf}
use Rattle.config_read.specs.Sets.{data_of}
use Rattle.config_read.specs.Filters.{AreRulesetsBuilt}
use Rattle.config_read.specs.RulesetsOf.{ruleset_table, ruleset_at, each_ruleset_table}
use Rattle.config_read.proofs.EachLemmas.{Goes}
use Rattle.config_read.proofs.rulesets.each_ruleset.Given as goal

-- the rulesets so far and those of the values that are left are all, and what these come to is what all come to;
-- the ids are those of the rulesets so far
abbrev pub invariant-loop-value : goal.invariant-loop-value
invariant-loop-value l = record {
  sets : map set_data l.sets ++ map (ruleset_at (data_of l.all)) (map view (drop l.value-index l.all.values.now)) ≡ map (ruleset_at (data_of l.all)) (data_of l.all);
  tables : Goes (ruleset_table (judged l.scheme) (data_of l.all) l.place) (ruleset_at (data_of l.all)) (map set_data l.sets) (map view (drop l.value-index l.all.values.now)) (each_ruleset_table (judged l.scheme) (data_of l.all) l.place (data_of l.all));
  ids : AreSetIdsOf l.ids (map set_data l.sets);
  built : AreRulesetsBuilt l.scheme l.sets;
}
