use Rattle.edge_core.proofs.world.World.count.Given as goal

abbrev pub ghost-answer : goal.ghost-answer
ghost-answer g a = g.meaning
