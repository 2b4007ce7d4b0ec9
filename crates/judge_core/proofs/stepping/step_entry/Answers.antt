use Rattle.std.proofs.lemmas.Result.{IfOk-weaker}
use Rattle.judge_core.specs.Machine.{stepped}
use Rattle.judge_core.specs.Places.{carried_of}
use Rattle.judge_core.proofs.StepLemmas.{entry_came, entry_asked}
use Rattle.judge_core.proofs.stepping.step_entry.Goals as goal

pub returns-in-Came-clause-talk : goal.returns-in-Came-clause-talk
returns-in-Came-clause-talk g c =
    IfOk-weaker c.settle_entry.result _ _
    (λ s settles.
    entry_came g.listed c.args.config.now c.args.number c.args.walk c.rule-place.result c.in-Some.found.set.now c.in-Some.found.rule.now
    c.own-effective.result c.in_ok-outcome.field-0 c.in-Came.outcome (carried_of c.args.config.now c.args.state.now) (carried_of c.args.config.now c.reach.new.state)
    (stepped g.listed c.args.config.now s (carried_of c.args.config.now c.settle_entry.new.state))
    c.rule-place.ensures c.own-effective.ensures c.in-Some.ensures.some c.in_ok-outcome.ensures c.in-Came.is settles)
    c.settle_entry.ensures.talk

pub returns-in-Asks-clause-talk : goal.returns-in-Asks-clause-talk
returns-in-Asks-clause-talk g c =
    entry_asked g.listed c.args.config.now c.args.number c.args.walk c.rule-place.result c.in-Some.found.set.now c.in-Some.found.rule.now
    c.own-effective.result c.in_ok-outcome.field-0 c.in-Asks.ask c.in-Asks.holds (carried_of c.args.config.now c.args.state.now) (carried_of c.args.config.now c.reach.new.state)
    c.rule-place.ensures c.own-effective.ensures c.in-Some.ensures.some c.in_ok-outcome.ensures c.in-Asks.is
