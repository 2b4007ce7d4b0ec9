use Rattle.std.proofs.lemmas.Result.{IfOk-weaker}
use Rattle.judge_core.specs.declared.outcome.Where.TheVariants as at
use Rattle.judge_core.specs.Machine.{stepped}
use Rattle.judge_core.specs.Places.{carried_of}
use Rattle.judge_core.proofs.StepLemmas.{given_there}
use Rattle.judge_core.proofs.answering.take_answer.Goals as goal

pub returns-in-Executed : goal.returns-in-Executed
returns-in-Executed g c =
    IfOk-weaker c.answer_executed.result _ _
    (λ s answers.
    given_there g.listed c.args.config.now c.args.asked (at.Executed c.in-Executed.walk c.in-Executed.inner)
    (carried_of c.args.config.now c.args.state.now) c.args.answer
    (stepped g.listed c.args.config.now s (carried_of c.args.config.now c.answer_executed.new.state)) c.in-Executed.is answers)
    c.answer_executed.ensures
