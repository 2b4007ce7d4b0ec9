use Rattle.expr_parser.proofs.EachAnswered.{answer_found}
use Rattle.expr_parser.proofs.grammar.each_text_has_an_answer.Goals as goal

pub returns : goal.returns
returns c = answer_found
