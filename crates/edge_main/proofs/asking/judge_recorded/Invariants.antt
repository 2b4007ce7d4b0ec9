use Rattle.edge_main.proofs.asking.judge_recorded.Given as goal

abbrev pub ghost-judge_request : goal.ghost-judge_request
ghost-judge_request g a = g.listed

abbrev pub ghost-follow : goal.ghost-follow
ghost-follow g a = g.listed
