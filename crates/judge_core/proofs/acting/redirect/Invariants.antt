use Rattle.judge_core.proofs.acting.redirect.Given as goal

abbrev pub ghost-text_on : goal.ghost-text_on
ghost-text_on g a = g.listed
