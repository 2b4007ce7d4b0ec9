use Rattle.judge_core.proofs.reaching.reach_limited.Given as goal

abbrev pub ghost-key_on : goal.ghost-key_on
ghost-key_on g a = g.listed

abbrev pub ghost-adds_on : goal.ghost-adds_on
ghost-adds_on g a = g.listed
