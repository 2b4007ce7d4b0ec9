use Rattle.judge_core.proofs.changing.keep_header.Given as goal

abbrev pub ghost-change_on : goal.ghost-change_on
ghost-change_on g a = g.listed
