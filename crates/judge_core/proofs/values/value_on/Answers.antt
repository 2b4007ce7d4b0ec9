use Rattle.std.proofs.lemmas.Result.{IfOk-weaker}
use Rattle.std.specs.Option.{option_copied}
use Rattle.judge_core.proofs.ValueLemmas.{value_here}
use Rattle.judge_core.proofs.values.value_on.Goals as goal

pub returns : goal.returns
returns g c =
    IfOk-weaker c.run.result _ _
    (λ found is.
    value_here g.listed c.args.config.now c.lists.result.now (option_copied c.as_ref.result) c.args.filter.now c.args.state.now found
    c.requires.0 c.lists.ensures c.as_ref.ensures.value is)
    c.run.ensures
