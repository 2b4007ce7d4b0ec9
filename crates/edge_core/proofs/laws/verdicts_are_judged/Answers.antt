use Rattle.edge_core.proofs.SinceRuns.{verdicts_are_judged}
use Rattle.edge_core.proofs.laws.verdicts_are_judged.Goals as goal

pub returns : goal.returns
returns c = verdicts_are_judged
