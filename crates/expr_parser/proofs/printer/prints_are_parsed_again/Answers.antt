use Rattle.expr_parser.proofs.Rereading.{spelling_is_parsed}
use Rattle.expr_parser.proofs.printer.prints_are_parsed_again.Goals as goal

pub returns : goal.returns
returns c = spelling_is_parsed c.answers_are_unique.ensures
