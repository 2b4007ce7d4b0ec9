use Rattle.edge_core.proofs.judging.begin.Given as goal

abbrev pub ghost-next : goal.ghost-next
ghost-next g a = g.listed
