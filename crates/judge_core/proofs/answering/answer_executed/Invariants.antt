use Rattle.judge_core.proofs.answering.answer_executed.Given as goal

abbrev pub ghost-answer_rule : goal.ghost-answer_rule
ghost-answer_rule g a = g.listed

abbrev pub ghost-settle_executed : goal.ghost-settle_executed
ghost-settle_executed g a = g.listed
