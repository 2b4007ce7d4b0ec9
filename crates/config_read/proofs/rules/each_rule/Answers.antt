use Rattle.std.proofs.Common.{◌≡◌, ◌∙◌, ◌++◌, ◌∷◌, [], None, List, map, sym, ap, subst}
use Rattle.std.proofs.lemmas.List.{map-append}
use Rattle.serde_json.specs.View.{view}
use Rattle.ruleset_model.specs.Data.{RuleData, rule_data}
use Rattle.ruleset_model.specs.declared.ruleset.Rule.{Rule}
use Rattle.config_read.specs.Filters.{IsRuleBuilt}
use Rattle.config_read.specs.Ids.{Keeps}
use Rattle.config_read.specs.Here.{rules_here}
use Rattle.config_read.specs.Judged.{judged}
use Rattle.config_read.specs.RulesOf.{rule_table, rule_at}
use Rattle.config_read.specs.Sets.{data_of}
use Rattle.config_read.proofs.EachLemmas.{one_further, goes_further}
use Rattle.config_read.proofs.FilterLemmas.{all_more}
use Rattle.config_read.proofs.IdLemmas.{one_more_rule}
use Rattle.config_read.proofs.rules.each_rule.Goals as goal

pub loop-value-preserved : goal.loop-value-preserved
unfolding rule_at
loop-value-preserved c =
    let values = c.args.values.now in
    let i = c.loop-value.value-index in
    let item = c.value-item.result in
    let all = data_of c.args.all.now in
    let before = map rule_data c.loop-value.rules in
    let table = rule_table (judged c.args.scheme.now) all c.args.kind c.args.phase c.args.place.now in
    let own : c.text.result.now ≡ (rule_data c.in_ok-rule.rule).id = c.text.ensures ∙ sym (ap (λ (rule : RuleData). rule.id) c.in_ok-rule.ensures.value) in
    let kept = subst (λ id. Keeps c.loop-value.ids c.keep.new.ids id c.len.result) own c.in_ok-keep.ensures in
    let made =
    ap (map rule_data) c.in_ok-push.ensures.ok
    ∙ map-append rule_data c.loop-value.rules (c.in_ok-rule.rule ∷ [])
    ∙ ap (λ (rule : RuleData). before ++ rule ∷ []) c.in_ok-rule.ensures.value in
    let passed = subst (λ (rules : List Rule). table (map rule_data rules) (view item) None) c.as_slice.ensures c.in_ok-rule.ensures.table in
    record {
      rules = one_further (rule_at all c.args.phase) values i item before _ _ c.loop-value-test.true c.value-item.is made c.loop-value.invariant.rules;
      tables = goes_further table (rule_at all c.args.phase) values i item before _ (rules_here c.args.scheme.now c.args.all.now c.args.kind c.args.phase c.args.place.now values) c.loop-value-test.true c.value-item.is made c.loop-value.invariant.tables passed;
      built = all_more (IsRuleBuilt c.args.scheme.now c.args.phase) c.loop-value.rules c.in_ok-rule.rule _ c.in_ok-push.ensures.ok c.loop-value.invariant.built c.in_ok-rule.ensures.built;
      ids = one_more_rule c.loop-value.ids c.keep.new.ids c.loop-value.rules _ c.in_ok-rule.rule c.len.result c.loop-value.invariant.ids kept c.in_ok-push.ensures.ok;
    }
