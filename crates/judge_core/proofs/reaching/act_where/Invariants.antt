use Rattle.judge_core.proofs.reaching.act_where.Given as goal

abbrev pub ghost-act : goal.ghost-act
ghost-act g a = g.listed
