use Rattle.judge_core.proofs.limits.adds_on.Given as goal

abbrev pub ghost-is_true : goal.ghost-is_true
ghost-is_true g a = g.listed
