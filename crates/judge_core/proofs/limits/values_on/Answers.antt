use Rattle.std.proofs.Common.{◌∙◌}
use Rattle.judge_core.specs.Limits.{bytes_on}
use Rattle.judge_core.specs.Places.{carried_of}
use Rattle.judge_core.proofs.KeyLemmas.{concat_more}
use Rattle.judge_core.proofs.limits.values_on.Goals as goal

pub loop-one-preserved : goal.loop-one-preserved
loop-one-preserved g c =
    c.in_ok-push_characteristic.ensures
    ∙ concat_more (bytes_on g.listed (carried_of c.args.config.now c.args.state.now)) c.args.characteristics.now c.loop-one.one-index
    c.one-item.result c.loop-one.text c.loop-one-test.true c.one-item.is c.loop-one.invariant
