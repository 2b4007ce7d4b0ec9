use Rattle.edge_core.proofs.world.World.apply.Given as goal

abbrev pub ghost-pick : goal.ghost-pick
ghost-pick g a = g.meaning

abbrev pub ghost-count : goal.ghost-count
ghost-count g a = g.meaning

abbrev pub ghost-back : goal.ghost-back
ghost-back g a = g.meaning
