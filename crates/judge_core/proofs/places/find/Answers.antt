use Rattle.std.proofs.Common.{sym, ap, ◌∙◌}
use Rattle.std.specs.Option.{option_copied}
use Rattle.judge_core.proofs.SuitLemmas.{reaches}
use Rattle.judge_core.proofs.places.find.Goals as goal

pub returns-clause-some : goal.returns-clause-some
returns-clause-some c =
    reaches c.args.config.now c.args.place c.in_ok-set.set.now c.in_ok-rule.rule.now c.set_at.ensures.valid
    (sym c.set_at.ensures.found ∙ ap option_copied c.in_ok-set.was) (sym c.rule_of.ensures ∙ ap option_copied c.in_ok-rule.was)
