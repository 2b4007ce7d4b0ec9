use Rattle.type_check.proofs.NamesLemmas.{found_function}
use Rattle.type_check.proofs.names.find_function.Goals as goal

pub returns : goal.returns
returns c = found_function c.args.name.now c.function_named.result c.function_named.ensures
