use Rattle.edge_main.proofs.OutputLemmas.{every_input_has_an_output}
use Rattle.edge_main.proofs.laws.every_input_has_an_output.Goals as goal

pub returns : goal.returns
returns c = every_input_has_an_output
