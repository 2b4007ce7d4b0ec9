use Rattle.std.proofs.Common.{◌≡◌, refl, sym, ap, ◌∙◌}
use Rattle.judge_core.specs.declared.outcome.Step.TheVariants as step
use Rattle.judge_core.specs.declared.outcome.Where.TheVariants as at
use Rattle.judge_core.specs.Changing.{phase_end}
use Rattle.judge_core.specs.Machine.{stepped, ExecutedSteps}
use Rattle.judge_core.specs.Places.{carried_of, rule_at}
use Rattle.judge_core.proofs.StepLemmas.{both_ok, executes_here, executing_gone, executed_ends, executed_came, executed_asked}
use Rattle.judge_core.proofs.stepping.step_executed.Goals as goal

pub returns-in_default-clause-talk : goal.returns-in_default-clause-talk
returns-in_default-clause-talk g c =
    both_ok c.leave.result (λ s. s ≡ step.Moved (record { phase = c.args.number; at = at.Between }))
    (ExecutedSteps g.listed c.args.config.now c.args.number c.args.walk c.args.inner c.args.state.now c.leave.new.state)
    (carried_of c.args.config.now c.leave.new.state ≡ phase_end (carried_of c.args.config.now c.args.state.now))
    (λ s moved ended.
    rw (moved, ended)
    (executing_gone g.listed c.args.config.now c.args.number c.args.walk c.args.inner (carried_of c.args.config.now c.args.state.now)
    (ap (rule_at c.args.config.now) (sym c.rule.ensures) ∙ c.in_default.ensures.none refl)))
    c.leave.ensures.moved c.leave.ensures.state

pub returns-in_default-find-clause-talk : goal.returns-in_default-find-clause-talk
returns-in_default-find-clause-talk g c =
    rw c.next_in_entry-in_default-find.ensures
    (executed_ends g.listed c.args.config.now c.args.number c.args.walk c.args.inner (carried_of c.args.config.now c.args.state.now)
    (ap (rule_at c.args.config.now) (sym c.rule-place.ensures) ∙ c.in_default-find.ensures.none refl))

pub returns-in-Came-clause-talk : goal.returns-in-Came-clause-talk
returns-in-Came-clause-talk g c =
    executed_came g.listed c.args.config.now c.args.number c.args.walk c.args.inner c.in-Execute.overrides c.rule-place.result
    c.in-Some-find.found.set.now c.in-Some-find.found.rule.now c.under-effective.result c.in_ok-outcome.field-0 c.in-Came.outcome
    (carried_of c.args.config.now c.args.state.now) (carried_of c.args.config.now c.reach.new.state)
    (stepped g.listed c.args.config.now c.settle_executed.result (carried_of c.args.config.now c.reach.new.state))
    (executes_here c.args.config.now c.args.walk c.rule.result c.in-Some.executing.set.now c.in-Some.executing.rule.now c.in-Execute.field-0
    c.in-Execute.overrides c.rule.ensures c.in-Some.ensures.some c.in-Execute.is)
    c.rule-place.ensures c.under-effective.ensures c.in-Some-find.ensures.some c.in_ok-outcome.ensures c.in-Came.is c.settle_executed.ensures.talk

pub returns-in-Asks-clause-talk : goal.returns-in-Asks-clause-talk
returns-in-Asks-clause-talk g c =
    executed_asked g.listed c.args.config.now c.args.number c.args.walk c.args.inner c.in-Execute.overrides c.rule-place.result
    c.in-Some-find.found.set.now c.in-Some-find.found.rule.now c.under-effective.result c.in_ok-outcome.field-0 c.in-Asks.ask c.in-Asks.holds
    (carried_of c.args.config.now c.args.state.now) (carried_of c.args.config.now c.reach.new.state)
    (executes_here c.args.config.now c.args.walk c.rule.result c.in-Some.executing.set.now c.in-Some.executing.rule.now c.in-Execute.field-0
    c.in-Execute.overrides c.rule.ensures c.in-Some.ensures.some c.in-Execute.is)
    c.rule-place.ensures c.under-effective.ensures c.in-Some-find.ensures.some c.in_ok-outcome.ensures c.in-Asks.is
