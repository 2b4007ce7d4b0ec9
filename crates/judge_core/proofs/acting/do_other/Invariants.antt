use Rattle.judge_core.proofs.acting.do_other.Given as goal

abbrev pub ghost-keep_rewrite : goal.ghost-keep_rewrite
ghost-keep_rewrite g a = g.listed

abbrev pub ghost-redirect : goal.ghost-redirect
ghost-redirect g a = g.listed
