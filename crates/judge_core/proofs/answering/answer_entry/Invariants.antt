use Rattle.judge_core.proofs.answering.answer_entry.Given as goal

abbrev pub ghost-answer_rule : goal.ghost-answer_rule
ghost-answer_rule g a = g.listed

abbrev pub ghost-settle_entry : goal.ghost-settle_entry
ghost-settle_entry g a = g.listed
