use Rattle.expr_parser.proofs.Places.{one_fault}
use Rattle.expr_parser.proofs.reading.faults_are_unique.Goals as goal

pub returns : goal.returns
returns c = one_fault
