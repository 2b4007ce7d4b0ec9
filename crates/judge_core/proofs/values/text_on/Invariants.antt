use Rattle.judge_core.proofs.values.text_on.Given as goal

abbrev pub ghost-value_on : goal.ghost-value_on
ghost-value_on g a = g.listed
