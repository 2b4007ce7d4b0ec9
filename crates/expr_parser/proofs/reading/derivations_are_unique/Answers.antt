use Rattle.expr_parser.proofs.ReadExpressions.{one_tree}
use Rattle.expr_parser.proofs.reading.derivations_are_unique.Goals as goal

pub returns : goal.returns
returns c = one_tree
