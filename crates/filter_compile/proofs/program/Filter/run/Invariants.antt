-- what the steps behind leave of the slots so far is what all steps leave
use Rattle.std.proofs.Common.{◌≡◌, [], true, length}
use Rattle.tree_eval.specs.Given.{InEachOf}
use Rattle.filter_compile.specs.Steps.{left_by, are_steps_placed}
use Rattle.filter_compile.specs.Slots.{slots_of}
use Rattle.filter_compile.proofs.program.Filter.run.Given as goal

abbrev pub invariant-running : goal.invariant-running
invariant-running l = record {
  placed : are_steps_placed l.fn.self.lists l.steps ≡ true;
  left : InEachOf l.given (λ s. left_by s 0 l.steps (slots_of l.slots) ≡ left_by s 0 l.fn.self.steps []);
}

abbrev pub decreases-running : goal.decreases-running
decreases-running l = length l.steps
