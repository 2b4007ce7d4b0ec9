use Rattle.std.proofs.Common.{◌≡◌, ◌++◌, map, drop}
use Rattle.serde_json.specs.View.{view}
use Rattle.ruleset_model.specs.Data.{rule_data}
use Rattle.config_read.specs.Judged.{judged}
use Rattle.config_read.specs.Filters.{AreRulesBuilt}
use Rattle.config_read.specs.RulesOf.{rule_table, rule_at}
use Rattle.config_read.specs.Ids.{AreIdsOf}
use Rattle.config_read.specs.Sets.{data_of}
use Rattle.config_read.specs.RulesetsOf.{each_rule_table}
use Rattle.config_read.proofs.EachLemmas.{Goes}
use Rattle.config_read.proofs.rules.each_rule.Given as goal

-- the rules so far and those of the values that are left are all, and what these come to is what all come to;
-- the ids are those of the rules so far
abbrev pub invariant-loop-value : goal.invariant-loop-value
invariant-loop-value l = record {
  rules : map rule_data l.rules ++ map (rule_at (data_of l.all) l.phase) (map view (drop l.value-index l.values)) ≡ map (rule_at (data_of l.all) l.phase) (map view l.values);
  tables : Goes (rule_table (judged l.scheme) (data_of l.all) l.kind l.phase l.place) (rule_at (data_of l.all) l.phase) (map rule_data l.rules) (map view (drop l.value-index l.values)) (each_rule_table (judged l.scheme) (data_of l.all) l.kind l.phase l.place (map view l.values));
  ids : AreIdsOf l.ids (map rule_data l.rules);
  built : AreRulesBuilt l.scheme l.phase l.rules;
}
