use Rattle.trace_form.proofs.ItemLemmas.{IsNoItem-unique}
use Rattle.trace_form.proofs.laws.causes_are_unique.Goals as goal

pub returns : goal.returns
returns c = IsNoItem-unique
