use Rattle.std.proofs.Common.{◌≡◌, refl, sym, ap, ◌∙◌}
use Rattle.judge_core.specs.declared.outcome.Step.TheVariants as step
use Rattle.judge_core.specs.declared.outcome.Where.TheVariants as at
use Rattle.judge_core.specs.Changing.{phase_end}
use Rattle.judge_core.specs.Machine.{stepped, overrides_in, InnerAnswers}
use Rattle.judge_core.specs.Places.{carried_of, rule_at}
use Rattle.judge_core.proofs.StepLemmas.{both_ok, executes_here, executing_unanswered, executed_answered, executed_unanswered}
use Rattle.judge_core.proofs.answering.answer_executed.Goals as goal

pub returns-in_default : goal.returns-in_default
returns-in_default g c =
    both_ok c.leave.result (λ s. s ≡ step.Moved (record { phase = c.args.number; at = at.Between }))
    (InnerAnswers g.listed c.args.config.now c.args.number c.args.walk c.args.inner c.args.asked c.args.answer c.args.state.now c.leave.new.state)
    (carried_of c.args.config.now c.leave.new.state ≡ phase_end (carried_of c.args.config.now c.args.state.now))
    (λ s moved ended.
    rw (moved, ended)
    (executing_unanswered g.listed c.args.config.now c.args.number c.args.walk c.args.inner c.args.asked c.args.answer (carried_of c.args.config.now c.args.state.now)
    (ap overrides_in (ap (rule_at c.args.config.now) (sym c.rule.ensures) ∙ c.in_default.ensures.none refl))))
    c.leave.ensures.moved c.leave.ensures.state

pub returns-in_default-find : goal.returns-in_default-find
returns-in_default-find g c =
    rw c.next_in_entry.ensures
    (executed_unanswered g.listed c.args.config.now c.args.number c.args.walk c.args.inner c.in-Execute.field-1 c.args.asked c.args.answer (carried_of c.args.config.now c.args.state.now)
    (executes_here c.args.config.now c.args.walk c.rule.result c.in-Some.executing.set.now c.in-Some.executing.rule.now c.in-Execute.field-0
    c.in-Execute.field-1 c.rule.ensures c.in-Some.ensures.some c.in-Execute.is)
    (ap (rule_at c.args.config.now) (sym c.rule-place.ensures) ∙ c.in_default-find.ensures.none refl))

pub returns : goal.returns
returns g c =
    executed_answered g.listed c.args.config.now c.args.number c.args.walk c.args.inner c.in-Execute.field-1 c.rule-place.result
    c.in-Some-find.found.set.now c.in-Some-find.found.rule.now c.args.asked c.args.answer c.in_ok-outcome.outcome
    (carried_of c.args.config.now c.args.state.now) (carried_of c.args.config.now c.answer_rule.new.state)
    (stepped g.listed c.args.config.now c.settle_executed.result (carried_of c.args.config.now c.answer_rule.new.state))
    (executes_here c.args.config.now c.args.walk c.rule.result c.in-Some.executing.set.now c.in-Some.executing.rule.now c.in-Execute.field-0
    c.in-Execute.field-1 c.rule.ensures c.in-Some.ensures.some c.in-Execute.is)
    c.rule-place.ensures c.in-Some-find.ensures.some c.in_ok-outcome.ensures c.settle_executed.ensures.talk
