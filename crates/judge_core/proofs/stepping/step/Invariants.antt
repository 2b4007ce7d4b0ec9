use Rattle.judge_core.proofs.stepping.step.Given as goal

abbrev pub ghost-step_between : goal.ghost-step_between
ghost-step_between g a = g.listed

abbrev pub ghost-step_entry : goal.ghost-step_entry
ghost-step_entry g a = g.listed

abbrev pub ghost-step_executed : goal.ghost-step_executed
ghost-step_executed g a = g.listed
