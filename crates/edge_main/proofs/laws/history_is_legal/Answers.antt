use Rattle.edge_main.proofs.ShownLemmas.{positions_in_order, history_legal}
use Rattle.edge_main.proofs.laws.history_is_legal.Goals as goal

pub returns-clause-positions : goal.returns-clause-positions
returns-clause-positions c = positions_in_order c.history_is_legal_step_by_step.ensures

pub returns-clause-legal : goal.returns-clause-legal
returns-clause-legal c = history_legal c.history_is_legal_step_by_step.ensures
