use Rattle.expr_parser.proofs.OneAnswer.{one_answer}
use Rattle.expr_parser.proofs.grammar.answers_are_unique.Goals as goal

pub returns : goal.returns
returns c = one_answer c.address_is_unique.ensures c.cuts_are_unique.ensures c.faults_are_unique.ensures
