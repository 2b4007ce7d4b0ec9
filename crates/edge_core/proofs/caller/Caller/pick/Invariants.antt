use Rattle.std.specs.Arc.{arc_value}
use Rattle.edge_core.proofs.caller.Caller.pick.Given as goal

abbrev pub ghost-begin : goal.ghost-begin
ghost-begin g a = g.meaning (arc_value a.picked.config)
