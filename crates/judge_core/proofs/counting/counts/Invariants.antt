use Rattle.judge_core.proofs.counting.counts.Given as goal

abbrev pub ghost-counts_by : goal.ghost-counts_by
ghost-counts_by g a = g.listed
