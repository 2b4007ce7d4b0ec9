use Rattle.std.proofs.Common.{◌+◌, true, drop, sym, ap, ◌∙◌}
use Rattle.std.specs.Option.{option_copied}
use Rattle.judge_core.specs.Judging.{kept_then}
use Rattle.judge_core.specs.Places.{carried_of}
use Rattle.judge_core.specs.Talk.{Asks}
use Rattle.judge_core.proofs.BackLemmas.{kept_none, kept_passes, kept_asks}
use Rattle.judge_core.proofs.counting.next_count.Goals as goal

pub returns-in_default : goal.returns-in_default
returns-in_default g c =
    c.kept.invariant
    ∙ kept_none g.listed c.args.config.now c.args.at (carried_of c.args.config.now c.args.state.now) c.args.kept.now c.kept.number
    (sym c.kept_at.ensures ∙ ap option_copied c.in_default.is)

pub returns-then-branch : goal.returns-then-branch
returns-then-branch g c =
    c.kept.invariant
    ∙ kept_asks g.listed c.args.config.now c.args.at (carried_of c.args.config.now c.args.state.now) c.args.kept.now c.kept.number
    c.in-Some.one.now (sym c.kept_at.ensures ∙ ap option_copied c.in-Some.is) (sym c.in_ok-counts.ensures ∙ c.if-branch.true)
    ∙ ap
    (λ key.
    Asks (record { key = key; asked = c.args.at; adds = true })
    (λ answer.
    kept_then g.listed c.args.config.now c.args.at (carried_of c.args.config.now c.args.state.now) (drop (c.kept.number + 1) c.args.kept.now)))
    (sym c.in_ok-key.ensures)

pub kept-preserved : goal.kept-preserved
kept-preserved g c =
    c.kept.invariant
    ∙ kept_passes g.listed c.args.config.now c.args.at (carried_of c.args.config.now c.args.state.now) c.args.kept.now c.kept.number
    c.in-Some.one.now (sym c.kept_at.ensures ∙ ap option_copied c.in-Some.is) (sym c.in_ok-counts.ensures ∙ c.if-branch.false)
