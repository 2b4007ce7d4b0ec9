use Rattle.judge_core.proofs.changing.keep_uri.Given as goal

abbrev pub ghost-part_text : goal.ghost-part_text
ghost-part_text g a = g.listed
