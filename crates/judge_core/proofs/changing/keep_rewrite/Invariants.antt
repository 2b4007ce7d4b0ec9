use Rattle.judge_core.proofs.changing.keep_rewrite.Given as goal

abbrev pub ghost-keep_some_uri : goal.ghost-keep_some_uri
ghost-keep_some_uri g a = g.listed

abbrev pub ghost-keep_some_headers : goal.ghost-keep_some_headers
ghost-keep_some_headers g a = g.listed
