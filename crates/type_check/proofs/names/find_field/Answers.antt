use Rattle.type_check.proofs.NamesLemmas.{found_field}
use Rattle.type_check.proofs.names.find_field.Goals as goal

pub returns : goal.returns
returns c = found_field c.args.name.now c.field_named.result c.field_named.ensures
