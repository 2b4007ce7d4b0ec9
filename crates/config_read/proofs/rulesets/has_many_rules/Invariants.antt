use Rattle.std.proofs.Common.{◌≡◌, ◌≤◌, ◌+◌, map, drop}
use Rattle.serde_json.specs.View.{view}
use Rattle.config_read.specs.RulesetsOf.{rules_in_all}
use Rattle.config_read.proofs.rulesets.has_many_rules.Given as goal

-- the rules that are left and those that were counted are all
abbrev pub invariant-loop-set : goal.invariant-loop-set
invariant-loop-set l = record {
  within : l.room ≤ 10000;
  sum : rules_in_all (map view l.all) + l.room ≡ 10000 + rules_in_all (map view (drop l.set-index l.all));
}
