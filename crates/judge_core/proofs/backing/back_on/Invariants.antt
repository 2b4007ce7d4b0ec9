use Rattle.judge_core.proofs.backing.back_on.Given as goal

abbrev pub ghost-count_on : goal.ghost-count_on
ghost-count_on g a = g.listed

abbrev pub ghost-resume : goal.ghost-resume
ghost-resume g a = g.listed
