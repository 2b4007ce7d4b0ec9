use Rattle.config_read.proofs.acts.act_of.Goals as goal

pub returns-in-Skip-clause-built : goal.returns-in-Skip-clause-built
returns-in-Skip-clause-built c = c.skip.ensures.built c.args.scheme.now c.args.phase
