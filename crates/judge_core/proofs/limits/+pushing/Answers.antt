use Rattle.std.proofs.Common.{Some, ◌∙◌}
use Rattle.judge_core.specs.Limits.{bytes_of_value}
use Rattle.judge_core.proofs.KeyLemmas.{concat_more}
use Rattle.judge_core.proofs.limits.+pushing.Goals as goal

pub push_values-loop-item-preserved : goal.push_values-loop-item-preserved
push_values-loop-item-preserved t c =
    c.in_ok-push_value.ensures
    ∙ concat_more (λ item. bytes_of_value (Some item)) c.args.items.now c.loop-item.item-index c.item-item.result c.loop-item.all
    c.loop-item-test.true c.item-item.is c.loop-item.invariant
