use Rattle.judge_core.proofs.reaching.reach.Given as goal

abbrev pub ghost-is_true : goal.ghost-is_true
ghost-is_true g a = g.listed

abbrev pub ghost-act_where : goal.ghost-act_where
ghost-act_where g a = g.listed

abbrev pub ghost-reach_limited : goal.ghost-reach_limited
ghost-reach_limited g a = g.listed
