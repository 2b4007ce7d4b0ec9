use Rattle.std.proofs.Common.{sym, ◌∙◌}
use Rattle.judge_core.specs.Skipping.{skips_in_phase}
use Rattle.judge_core.proofs.SkipLemmas.{added_skips}
use Rattle.judge_core.proofs.skips.skips_phase.Goals as goal

pub returns-else-earlier_skip_phase : goal.returns-else-earlier_skip_phase
returns-else-earlier_skip_phase c =
    rw (c.added_skip_phase.ensures, c.as_slice.ensures)
    (added_skips (skips_in_phase c.args.phase) c.args.config.now c.args.state.now (sym c.earlier_skip_phase.ensures ∙ c.if-earlier_skip_phase.false))
