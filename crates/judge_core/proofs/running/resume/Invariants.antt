use Rattle.judge_core.proofs.running.resume.Given as goal

abbrev pub ghost-take_answer : goal.ghost-take_answer
ghost-take_answer g a = g.listed

abbrev pub ghost-run : goal.ghost-run
ghost-run g a = g.listed
