use Rattle.expr_lexer.proofs.WholeLemmas as whole
use Rattle.expr_lexer.proofs.tokens.uncut_have_faults.Goals as goal

pub returns : goal.returns
returns c = whole.uncut_have_faults
