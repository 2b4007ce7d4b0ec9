use Rattle.std.proofs.Common.{sym, ◌∙◌}
use Rattle.judge_core.specs.Skipping.{skips_one}
use Rattle.judge_core.proofs.SkipLemmas.{added_skips}
use Rattle.judge_core.proofs.skips.skips_rule.Goals as goal

pub returns-else-earlier_skip_rule : goal.returns-else-earlier_skip_rule
returns-else-earlier_skip_rule c =
    rw (c.added_skip_rule.ensures, c.as_slice.ensures)
    (added_skips (skips_one c.args.set.now c.args.rule.now) c.args.config.now c.args.state.now (sym c.earlier_skip_rule.ensures ∙ c.if-earlier_skip_rule.false))
