-- What was found so far, and what the rest will add.
use Rattle.type_check.proofs.AllLemmas.{SoFar}
use Rattle.type_check.proofs.judging.+judging.Given as goal

abbrev pub invariant-judge_all-loop-expr : goal.invariant-judge_all-loop-expr
invariant-judge_all-loop-expr l = SoFar l.scheme l.replies l.exprs l.fn.first l.fn.mark l.expr-index l.all
