use Rattle.judge_core.proofs.changing.part_text.Given as goal

abbrev pub ghost-text_on : goal.ghost-text_on
ghost-text_on g a = g.listed
