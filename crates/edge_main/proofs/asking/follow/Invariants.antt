use Rattle.edge_main.proofs.asking.follow.Given as goal

abbrev pub ghost-judge_reply : goal.ghost-judge_reply
ghost-judge_reply g a = g.listed
