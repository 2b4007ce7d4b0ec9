use Rattle.std.proofs.Common.{◌≡◌}
use Rattle.expr_parser.specs.Machine.{negate}
use Rattle.expr_parser.proofs.chains.negated.Given as goal

abbrev pub invariant-loop-left : goal.invariant-loop-left
invariant-loop-left l = negate l.left l.negated ≡ negate l.nots l.fn.expr

abbrev pub decreases-loop-left : goal.decreases-loop-left
decreases-loop-left l = l.left
