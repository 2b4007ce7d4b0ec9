use Rattle.std.proofs.Common.{◌∙◌}
use Rattle.config_read.proofs.heads.has_rule.Goals as goal

pub returns : goal.returns
returns c = c.is_kept.ensures ∙ c.args.earlier.now.same c.args.id.now
