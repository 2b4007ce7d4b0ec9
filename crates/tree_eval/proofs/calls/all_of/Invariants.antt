-- the values of what was taken so far
use Rattle.std.proofs.Common.{◌≡◌, map}
use Rattle.type_check.specs.Meaning.{alone, all_of}
use Rattle.tree_eval.specs.Seen.{seen}
use Rattle.tree_eval.proofs.calls.all_of.Given as goal

abbrev pub invariant-loop-sense : goal.invariant-loop-sense
invariant-loop-sense l = l.values ≡ all_of (map alone (map seen l.yielded))
