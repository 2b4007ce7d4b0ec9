use Rattle.edge_main.proofs.OutputLemmas.{runs_are_unique}
use Rattle.edge_main.proofs.laws.runs_are_unique.Goals as goal

pub returns : goal.returns
returns c = runs_are_unique c.first_refusal_is_one.ensures c.built_configurations_are_their_data.ensures
