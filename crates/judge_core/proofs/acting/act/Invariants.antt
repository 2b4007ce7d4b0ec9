use Rattle.judge_core.proofs.acting.act.Given as goal

abbrev pub ghost-do_other : goal.ghost-do_other
ghost-do_other g a = g.listed
