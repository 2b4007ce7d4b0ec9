-- what the nodes before the next one give
use Rattle.std.proofs.Common.{◌≡◌, ◌≤◌, true, false, map, take, count_by}
use Rattle.std.specs.List.{list_all, list_any}
use Rattle.tree_eval.specs.Given.{node_sense, is_true_node, InEachOf}
use Rattle.tree_eval.specs.Seen.{seen}
use Rattle.tree_eval.proofs.evaluator.+evaluating.Given as goal

abbrev pub invariant-senses_of-loop-node : goal.invariant-senses_of-loop-node
invariant-senses_of-loop-node l = InEachOf l.given (λ s. map seen l.senses.items ≡ map (node_sense s) (take l.node-index l.nodes))

abbrev pub invariant-are_true-loop-member : goal.invariant-are_true-loop-member
invariant-are_true-loop-member l = InEachOf l.given (λ s. list_all (is_true_node s) (take l.member-index l.members) ≡ true)

abbrev pub invariant-is_one_true-loop-member : goal.invariant-is_one_true-loop-member
invariant-is_one_true-loop-member l = InEachOf l.given (λ s. list_any (is_true_node s) (take l.member-index l.members) ≡ false)

abbrev pub invariant-count_true-loop-member : goal.invariant-count_true-loop-member
invariant-count_true-loop-member l = record {
  few : l.count ≤ l.member-index;
  counted : InEachOf l.given (λ s. l.count ≡ count_by (is_true_node s) (take l.member-index l.members));
}
