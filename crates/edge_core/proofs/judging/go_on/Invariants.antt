use Rattle.edge_core.proofs.judging.go_on.Given as goal

abbrev pub ghost-next : goal.ghost-next
ghost-next g a = g.listed
