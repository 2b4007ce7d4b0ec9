-- the tests of the values before the next one
use Rattle.std.proofs.Common.{◌≡◌, map, take}
use Rattle.edge_fields.specs.declared.value.Value.TheVariants as value
use Rattle.type_check.specs.Tests.{is_passed}
use Rattle.type_check.specs.Trees.{test_of}
use Rattle.tree_eval.specs.Given.{InEachOf}
use Rattle.tree_eval.proofs.evaluator.tests_of.Given as goal

abbrev pub invariant-loop-value : goal.invariant-loop-value
invariant-loop-value l =
    InEachOf l.fn.given (λ s. l.tests ≡ map (λ v. value.Bool (is_passed s.is_listed (test_of l.fn.test) v)) (take l.value-index l.values))
