use Rattle.judge_core.proofs.stepping.step_entry.Given as goal

abbrev pub ghost-reach : goal.ghost-reach
ghost-reach g a = g.listed

abbrev pub ghost-settle_entry : goal.ghost-settle_entry
ghost-settle_entry g a = g.listed
