use Rattle.expr_parser.proofs.Faults.{underived_is_fault}
use Rattle.expr_parser.proofs.reading.underived_have_faults.Goals as goal

pub returns : goal.returns
returns c = underived_is_fault
