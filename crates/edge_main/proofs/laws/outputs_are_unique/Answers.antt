use Rattle.edge_main.proofs.OutputLemmas.{outputs_are_unique}
use Rattle.edge_main.proofs.laws.outputs_are_unique.Goals as goal

pub returns : goal.returns
returns c = outputs_are_unique c.first_refusal_is_one.ensures c.built_configurations_are_their_data.ensures
