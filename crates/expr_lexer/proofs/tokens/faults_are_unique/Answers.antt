use Rattle.expr_lexer.proofs.CutLemmas.{fault_has_no_cut, fault_is_one}
use Rattle.expr_lexer.proofs.tokens.faults_are_unique.Goals as goal

pub returns : goal.returns
returns c = λ text at h. (λ tokens. fault_has_no_cut text at h tokens, λ other k. fault_is_one text at other h k)
