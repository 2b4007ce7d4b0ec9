use Rattle.std.proofs.Common.{sym, ap}
use Rattle.edge_core.specs.Stands.{asked_in_turn}
use Rattle.edge_core.proofs.caller.asked_by_turn.Goals as goal

pub returns-in-Count : goal.returns-in-Count
returns-in-Count c = sym (ap asked_in_turn c.in-Count.is)

pub returns-in-Done : goal.returns-in-Done
returns-in-Done c = sym (ap asked_in_turn c.in-Done.is)
