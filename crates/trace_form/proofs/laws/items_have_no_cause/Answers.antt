use Rattle.trace_form.proofs.ItemLemmas.{items_have_no_cause}
use Rattle.trace_form.proofs.laws.items_have_no_cause.Goals as goal

pub returns : goal.returns
returns c = items_have_no_cause
