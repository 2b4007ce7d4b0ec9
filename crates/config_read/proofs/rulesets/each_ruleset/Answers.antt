use Rattle.std.proofs.Common.{◌≡◌, ◌∙◌, ◌++◌, ◌∷◌, [], None, List, map, sym, ap, subst}
use Rattle.std.proofs.lemmas.List.{map-append}
use Rattle.serde_json.specs.View.{view}
use Rattle.ruleset_model.specs.Data.{RulesetData, set_data}
use Rattle.ruleset_model.specs.declared.ruleset.Ruleset.{Ruleset}
use Rattle.config_read.specs.Filters.{IsRulesetBuilt}
use Rattle.config_read.specs.Ids.{Keeps}
use Rattle.config_read.specs.Here.{rulesets_here}
use Rattle.config_read.specs.Judged.{judged}
use Rattle.config_read.specs.RulesetsOf.{ruleset_table, ruleset_at}
use Rattle.config_read.specs.Sets.{data_of}
use Rattle.config_read.proofs.EachLemmas.{one_further, goes_further}
use Rattle.config_read.proofs.FilterLemmas.{all_more}
use Rattle.config_read.proofs.IdLemmas.{one_more_set}
use Rattle.config_read.proofs.rulesets.each_ruleset.Goals as goal

pub loop-value-preserved : goal.loop-value-preserved
unfolding ruleset_at
loop-value-preserved c =
    let values = c.args.all.now.values.now in
    let i = c.loop-value.value-index in
    let item = c.value-item.result in
    let all = data_of c.args.all.now in
    let before = map set_data c.loop-value.sets in
    let table = ruleset_table (judged c.args.scheme.now) all c.args.place.now in
    let own : c.text.result.now ≡ (set_data c.in_ok-set.set).id = c.text.ensures ∙ sym (ap (λ (set : RulesetData). set.id) c.in_ok-set.ensures.value) in
    let kept = subst (λ id. Keeps c.loop-value.ids c.keep.new.ids id c.len.result) own c.in_ok-keep.ensures in
    let made =
    ap (map set_data) c.in_ok-push.ensures.ok
    ∙ map-append set_data c.loop-value.sets (c.in_ok-set.set ∷ [])
    ∙ ap (λ (set : RulesetData). before ++ set ∷ []) c.in_ok-set.ensures.value in
    let passed = subst (λ (sets : List Ruleset). table (map set_data sets) (view item) None) c.as_slice.ensures c.in_ok-set.ensures.table in
    record {
      sets = one_further (ruleset_at all) values i item before _ _ c.loop-value-test.true c.value-item.is made c.loop-value.invariant.sets;
      tables = goes_further table (ruleset_at all) values i item before _ (rulesets_here c.args.scheme.now c.args.all.now c.args.place.now) c.loop-value-test.true c.value-item.is made c.loop-value.invariant.tables passed;
      built = all_more (IsRulesetBuilt c.args.scheme.now) c.loop-value.sets c.in_ok-set.set _ c.in_ok-push.ensures.ok c.loop-value.invariant.built c.in_ok-set.ensures.built;
      ids = one_more_set c.loop-value.ids c.keep.new.ids c.loop-value.sets _ c.in_ok-set.set c.len.result c.loop-value.invariant.ids kept c.in_ok-push.ensures.ok;
    }
