use Rattle.judge_core.proofs.stepping.settle_entry.Given as goal

abbrev pub ghost-begin_executed : goal.ghost-begin_executed
ghost-begin_executed g a = g.listed
