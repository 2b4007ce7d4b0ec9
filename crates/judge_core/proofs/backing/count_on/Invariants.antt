use Rattle.judge_core.proofs.backing.count_on.Given as goal

abbrev pub ghost-next_count : goal.ghost-next_count
ghost-next_count g a = g.listed

abbrev pub ghost-run : goal.ghost-run
ghost-run g a = g.listed
