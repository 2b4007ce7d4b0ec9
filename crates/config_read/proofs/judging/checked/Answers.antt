use Rattle.config_read.proofs.JudgedLemmas.{check_finds}
use Rattle.config_read.proofs.judging.checked.Goals as goal

pub returns-in-Err-Bad-clause-answer : goal.returns-in-Err-Bad-clause-answer
returns-in-Err-Bad-clause-answer c = check_finds _ _ _ _ _ c.in-Err-Bad.field-0-is c.in-Err-Bad.ensures.answer c.type_cause.ensures
