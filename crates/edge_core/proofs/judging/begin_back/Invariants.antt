use Rattle.edge_core.proofs.judging.begin_back.Given as goal

abbrev pub ghost-next : goal.ghost-next
ghost-next g a = g.listed
