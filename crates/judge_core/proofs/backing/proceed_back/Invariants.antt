use Rattle.judge_core.proofs.backing.proceed_back.Given as goal

abbrev pub ghost-back_on : goal.ghost-back_on
ghost-back_on g a = g.listed
