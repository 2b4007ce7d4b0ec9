use Rattle.edge_main.proofs.SpreadRunLemmas.{outputs_are_spreads}
use Rattle.edge_main.proofs.laws.outputs_are_spreads.Goals as goal

pub returns : goal.returns
returns c = outputs_are_spreads c.history_is_legal_step_by_step.ensures
