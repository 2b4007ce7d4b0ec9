use Rattle.std.proofs.Common.{sym, ap, ◌∙◌}
use Rattle.std.specs.Option.{option_copied}
use Rattle.judge_core.specs.Places.{carried_of}
use Rattle.judge_core.proofs.StepLemmas.{phase_skipped, phase_without, phase_no_set, phase_set_skipped, phase_enters}
use Rattle.judge_core.proofs.stepping.step_between.Goals as goal

pub returns-then-skips_phase-clause-talk : goal.returns-then-skips_phase-clause-talk
returns-then-skips_phase-clause-talk g c =
    phase_skipped g.listed c.args.config.now c.args.number c.in-Some.phase (carried_of c.args.config.now c.args.state.now)
    (sym c.phase_at.ensures.found ∙ c.in-Some.is) (sym c.skips_phase.ensures ∙ c.if-skips_phase.true)

pub returns-in_default-entry-clause-talk : goal.returns-in_default-entry-clause-talk
returns-in_default-entry-clause-talk g c =
    phase_without g.listed c.args.config.now c.args.number c.in-Some.phase (carried_of c.args.config.now c.args.state.now)
    (sym c.phase_at.ensures.found ∙ c.in-Some.is) (sym c.skips_phase.ensures ∙ c.if-skips_phase.false)
    (sym c.entry.ensures ∙ c.in_default-entry.is)

pub returns-in_default-set_at-clause-talk : goal.returns-in_default-set_at-clause-talk
returns-in_default-set_at-clause-talk g c =
    phase_no_set g.listed c.args.config.now c.args.number c.in-Some.phase c.in-Some-entry.holder (carried_of c.args.config.now c.args.state.now)
    (sym c.phase_at.ensures.found ∙ c.in-Some.is) (sym c.skips_phase.ensures ∙ c.if-skips_phase.false)
    (sym c.entry.ensures ∙ c.in-Some-entry.is) (sym c.set_at.ensures.found ∙ ap option_copied c.in_default-set_at.is)

pub returns-then-skips_ruleset-clause-talk : goal.returns-then-skips_ruleset-clause-talk
returns-then-skips_ruleset-clause-talk g c =
    phase_set_skipped g.listed c.args.config.now c.args.number c.in-Some.phase c.in-Some-entry.holder c.in-Some-set_at.set.now
    (carried_of c.args.config.now c.args.state.now)
    (sym c.phase_at.ensures.found ∙ c.in-Some.is) (sym c.skips_phase.ensures ∙ c.if-skips_phase.false)
    (sym c.entry.ensures ∙ c.in-Some-entry.is) (sym c.set_at.ensures.found ∙ ap option_copied c.in-Some-set_at.is)
    (sym c.skips_ruleset.ensures ∙ c.if-skips_ruleset.true)

pub returns-clause-talk : goal.returns-clause-talk
returns-clause-talk g c =
    phase_enters g.listed c.args.config.now c.args.number c.in-Some.phase c.in-Some-entry.holder c.in-Some-set_at.set.now
    (carried_of c.args.config.now c.args.state.now)
    (sym c.phase_at.ensures.found ∙ c.in-Some.is) (sym c.skips_phase.ensures ∙ c.if-skips_phase.false)
    (sym c.entry.ensures ∙ c.in-Some-entry.is) (sym c.set_at.ensures.found ∙ ap option_copied c.in-Some-set_at.is)
    (sym c.skips_ruleset.ensures ∙ c.if-skips_ruleset.false)
