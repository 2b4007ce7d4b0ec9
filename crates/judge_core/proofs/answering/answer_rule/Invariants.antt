use Rattle.judge_core.proofs.answering.answer_rule.Given as goal

abbrev pub ghost-act : goal.ghost-act
ghost-act g a = g.listed
