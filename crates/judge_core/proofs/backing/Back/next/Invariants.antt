use Rattle.judge_core.proofs.backing.Back.next.Given as goal

abbrev pub ghost-proceed_back : goal.ghost-proceed_back
ghost-proceed_back g a = g.listed
