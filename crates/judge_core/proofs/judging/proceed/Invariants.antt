use Rattle.judge_core.proofs.judging.proceed.Given as goal

abbrev pub ghost-go_on : goal.ghost-go_on
ghost-go_on g a = g.listed
