use Rattle.edge_core.proofs.RunLemmas.{histories_legal}
use Rattle.edge_core.proofs.laws.histories_are_legal.Goals as goal

pub returns : goal.returns
returns c = histories_legal
