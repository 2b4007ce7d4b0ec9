use Rattle.judge_core.proofs.stepping.step_executed.Given as goal

abbrev pub ghost-reach : goal.ghost-reach
ghost-reach g a = g.listed

abbrev pub ghost-settle_executed : goal.ghost-settle_executed
ghost-settle_executed g a = g.listed
