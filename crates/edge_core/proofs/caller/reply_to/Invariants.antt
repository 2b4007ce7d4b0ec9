use Rattle.std.specs.Arc.{arc_value}
use Rattle.edge_core.proofs.caller.reply_to.Given as goal

abbrev pub ghost-begin_back : goal.ghost-begin_back
ghost-begin_back g a = g.meaning (arc_value a.judged.config)
