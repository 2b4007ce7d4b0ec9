-- what was taken, and what is to be taken still, is all
use Rattle.std.proofs.Common.{◌≡◌, ◌++◌, ◌-◌, length, map}
use Rattle.tree_eval.specs.Seen.{seen}
use Rattle.filter_compile.specs.Steps.{taken, without}
use Rattle.filter_compile.specs.Slots.{slots_of}
use Rattle.filter_compile.proofs.running.take_many.Given as goal

abbrev pub invariant-taking : goal.invariant-taking
invariant-taking l = record {
  front : map seen l.senses.items ++ taken (l.count - length l.senses.items) (slots_of l.slots) ≡ taken l.count (slots_of l.fn.slots);
  rest : without (l.count - length l.senses.items) (slots_of l.slots) ≡ without l.count (slots_of l.fn.slots);
}

abbrev pub decreases-taking : goal.decreases-taking
decreases-taking l = l.count - length l.senses.items
