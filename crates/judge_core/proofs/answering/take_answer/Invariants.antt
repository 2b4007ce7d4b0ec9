use Rattle.judge_core.proofs.answering.take_answer.Given as goal

abbrev pub ghost-answer_entry : goal.ghost-answer_entry
ghost-answer_entry g a = g.listed

abbrev pub ghost-answer_executed : goal.ghost-answer_executed
ghost-answer_executed g a = g.listed
