use Rattle.judge_core.proofs.counting.counts_by.Given as goal

abbrev pub ghost-is_true : goal.ghost-is_true
ghost-is_true g a = g.listed
