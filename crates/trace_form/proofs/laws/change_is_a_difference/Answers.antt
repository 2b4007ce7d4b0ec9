use Rattle.trace_form.proofs.ChangedLemmas.{change_is_a_difference}
use Rattle.trace_form.proofs.laws.change_is_a_difference.Goals as goal

pub returns : goal.returns
returns c = change_is_a_difference
