use Rattle.std.proofs.Common.{subst}
use Rattle.std.specs.Arc.{arc_value}
use Rattle.ruleset_model.specs.ConfigParts.{ConfigParts}
use Rattle.ruleset_model.specs.Valid.{IsValid}
use Rattle.edge_core.proofs.MoveLemmas.{backs_blocked, backs_passed}
use Rattle.edge_core.proofs.caller.reply_to.Goals as goal

pub returns-then-not-is_pass : goal.returns-then-not-is_pass
returns-then-not-is_pass g c =
    backs_blocked g.meaning c.args.reply c.args.at c.args.judged
    (λ passed. let holds = c.is_pass.ensures.1 passed in let fails = c.if-not-is_pass.true in absurd (cc))

pub begin_back-requires : goal.begin_back-requires
begin_back-requires g c =
    c.requires.told (arc_value c.args.judged.config)
    (subst (λ (config : ConfigParts). IsValid config.lists config.rulesets) c.deref.ensures c.rulesets-valid.ensures.valid)

pub returns : goal.returns
returns g c =
    backs_passed g.meaning c.args.reply c.args.at c.args.judged c.in_ok-back.back c.in_ok-back.turn (c.is_pass.ensures.0 c.if-not-is_pass.false)
    c.in_ok-back.ensures
