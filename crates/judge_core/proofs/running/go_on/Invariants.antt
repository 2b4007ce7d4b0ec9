use Rattle.judge_core.proofs.running.go_on.Given as goal

abbrev pub ghost-run : goal.ghost-run
ghost-run g a = g.listed

abbrev pub ghost-resume : goal.ghost-resume
ghost-resume g a = g.listed
