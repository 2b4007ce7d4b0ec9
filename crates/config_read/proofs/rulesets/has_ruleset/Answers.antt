use Rattle.std.proofs.Common.{◌∙◌}
use Rattle.config_read.proofs.rulesets.has_ruleset.Goals as goal

pub returns : goal.returns
returns c = c.is_kept.ensures ∙ c.args.earlier.now.same c.args.id.now
