use Rattle.edge_main.proofs.ShownLemmas.{shown_judged}
use Rattle.edge_main.proofs.laws.shown_is_judged.Goals as goal

pub returns : goal.returns
returns c = shown_judged
