use Rattle.std.proofs.Common.{sym, ◌∙◌}
use Rattle.judge_core.specs.Skipping.{skips_set}
use Rattle.judge_core.proofs.SkipLemmas.{added_skips}
use Rattle.judge_core.proofs.skips.skips_ruleset.Goals as goal

pub returns-else-earlier_skip_ruleset : goal.returns-else-earlier_skip_ruleset
returns-else-earlier_skip_ruleset c =
    rw (c.added_skip_ruleset.ensures, c.as_slice.ensures)
    (added_skips (skips_set c.args.set.now) c.args.config.now c.args.state.now (sym c.earlier_skip_ruleset.ensures ∙ c.if-earlier_skip_ruleset.false))
