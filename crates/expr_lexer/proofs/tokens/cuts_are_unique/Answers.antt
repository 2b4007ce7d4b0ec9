use Rattle.expr_lexer.proofs.CutLemmas.{cut_is_one}
use Rattle.expr_lexer.proofs.tokens.cuts_are_unique.Goals as goal

pub returns : goal.returns
returns c = λ text tokens others h k. cut_is_one text 0 tokens others h k
