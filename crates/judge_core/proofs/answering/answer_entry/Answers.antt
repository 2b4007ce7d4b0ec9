use Rattle.std.proofs.Common.{◌≡◌, refl, sym, ap, ◌∙◌}
use Rattle.std.proofs.lemmas.Result.{IfOk-weaker}
use Rattle.judge_core.specs.declared.outcome.Step.TheVariants as step
use Rattle.judge_core.specs.declared.outcome.Where.TheVariants as at
use Rattle.judge_core.specs.Changing.{phase_end}
use Rattle.judge_core.specs.Machine.{stepped, EntryAnswers}
use Rattle.judge_core.specs.Places.{carried_of, rule_at}
use Rattle.judge_core.proofs.StepLemmas.{both_ok, entry_answered, entry_unanswered}
use Rattle.judge_core.proofs.answering.answer_entry.Goals as goal

pub returns-in_default : goal.returns-in_default
returns-in_default g c =
    both_ok c.leave.result (λ s. s ≡ step.Moved (record { phase = c.args.number; at = at.Between }))
    (EntryAnswers g.listed c.args.config.now c.args.number c.args.walk c.args.asked c.args.answer c.args.state.now c.leave.new.state)
    (carried_of c.args.config.now c.leave.new.state ≡ phase_end (carried_of c.args.config.now c.args.state.now))
    (λ s moved ended.
    rw (moved, ended)
    (entry_unanswered g.listed c.args.config.now c.args.number c.args.walk c.args.asked c.args.answer (carried_of c.args.config.now c.args.state.now)
    (ap (rule_at c.args.config.now) (sym c.rule-place.ensures) ∙ c.in_default.ensures.none refl)))
    c.leave.ensures.moved c.leave.ensures.state

pub returns : goal.returns
returns g c =
    IfOk-weaker c.settle_entry.result _ _
    (λ s settles.
    entry_answered g.listed c.args.config.now c.args.number c.args.walk c.rule-place.result c.in-Some.found.set.now c.in-Some.found.rule.now
    c.args.asked c.args.answer c.in_ok-outcome.outcome (carried_of c.args.config.now c.args.state.now)
    (carried_of c.args.config.now c.answer_rule.new.state)
    (stepped g.listed c.args.config.now s (carried_of c.args.config.now c.settle_entry.new.state))
    c.rule-place.ensures c.in-Some.ensures.some c.in_ok-outcome.ensures settles)
    c.settle_entry.ensures.talk
