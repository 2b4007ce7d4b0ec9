use Rattle.judge_core.proofs.changing.keep_some_headers.Given as goal

abbrev pub ghost-keep_headers : goal.ghost-keep_headers
ghost-keep_headers g a = g.listed
