use Rattle.judge_core.proofs.changing.keep_some_uri.Given as goal

abbrev pub ghost-keep_uri : goal.ghost-keep_uri
ghost-keep_uri g a = g.listed
