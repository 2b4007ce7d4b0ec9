use Rattle.std.proofs.Common.{◌∙◌, ap, map}
use Rattle.std.proofs.lemmas.List.{take_all}
use Rattle.edge_fields.specs.declared.value.Value.TheVariants as value
use Rattle.tree_eval.proofs.NodeLemmas.{map_step}
use Rattle.tree_eval.proofs.evaluator.tests_of.Goals as goal

pub loop-value-preserved : goal.loop-value-preserved
loop-value-preserved c is_listed tells =
    c.in_ok-push.ensures.ok
    ∙ map_step _ c.args.values.now c.loop-value.value-index c.value-item.result _ c.loop-value.tests c.loop-value-test.true c.value-item.is
    (ap value.Bool (c.in_ok-is_passed.ensures is_listed tells)) (c.loop-value.invariant is_listed tells)

pub returns : goal.returns
returns c is_listed tells =
    c.loop-value.invariant is_listed tells ∙ ap (map _) (take_all c.loop-value.value-index c.args.values.now c.loop-value-test.false)
