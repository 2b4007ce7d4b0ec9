use Rattle.judge_core.proofs.limits.key_on.Given as goal

abbrev pub ghost-values_on : goal.ghost-values_on
ghost-values_on g a = g.listed
