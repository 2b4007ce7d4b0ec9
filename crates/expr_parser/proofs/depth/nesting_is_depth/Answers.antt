use Rattle.expr_parser.proofs.DepthLemmas as lemmas
use Rattle.expr_parser.proofs.depth.nesting_is_depth.Goals as goal

pub returns : goal.returns
returns c = lemmas.nesting_is_depth
