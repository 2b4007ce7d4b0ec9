use Rattle.edge_core.proofs.world.World.back.Given as goal

abbrev pub ghost-back : goal.ghost-back
ghost-back g a = g.meaning
