use Rattle.trace_form.proofs.MadeLemmas.{at-first}
use Rattle.trace_form.proofs.made.Made.new.Goals as goal

pub invariant_of-result : goal.invariant_of-result
invariant_of-result c = at-first _
