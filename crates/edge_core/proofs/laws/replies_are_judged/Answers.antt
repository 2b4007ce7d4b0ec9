use Rattle.edge_core.proofs.SinceRuns.{replies_are_judged}
use Rattle.edge_core.proofs.laws.replies_are_judged.Goals as goal

pub returns : goal.returns
returns c = replies_are_judged
