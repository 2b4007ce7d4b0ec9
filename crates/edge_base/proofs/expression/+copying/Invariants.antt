use Rattle.std.proofs.Common.{◌≡◌, take}
use Rattle.edge_base.proofs.expression.+copying.Given as goal

abbrev pub invariant-copy_exprs-loop-expr : goal.invariant-copy_exprs-loop-expr
invariant-copy_exprs-loop-expr l = l.copy ≡ take l.expr-index l.exprs
