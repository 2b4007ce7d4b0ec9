use Rattle.edge_core.proofs.world.World.pick.Given as goal

abbrev pub ghost-pick : goal.ghost-pick
ghost-pick g a = g.meaning
