use Rattle.std.proofs.Common.{◌∙◌, ap}
use Rattle.tree_eval.specs.Calls.{with_last}
use Rattle.tree_eval.proofs.CallLemmas.{senses_step}
use Rattle.tree_eval.proofs.calls.all_of.Goals as goal

pub loop-sense-preserved : goal.loop-sense-preserved
loop-sense-preserved c =
    senses_step c.loop-sense.yielded c.in-Some.sense c.loop-sense.values c.in_ok-values.values c.loop-sense.invariant
    (c.in_ok-values.ensures ∙ ap (with_last c.loop-sense.values) c.alone.ensures)
