use Rattle.judge_core.proofs.judging.Judge.next.Given as goal

abbrev pub ghost-proceed : goal.ghost-proceed
ghost-proceed g a = g.listed
