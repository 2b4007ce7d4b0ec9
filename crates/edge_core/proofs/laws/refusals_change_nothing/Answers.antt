use Rattle.edge_core.proofs.TurnedAway.{refusals_change_nothing}
use Rattle.edge_core.proofs.laws.refusals_change_nothing.Goals as goal

pub returns : goal.returns
returns c = refusals_change_nothing
