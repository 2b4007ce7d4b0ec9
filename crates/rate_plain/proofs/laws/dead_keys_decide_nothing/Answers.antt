use Rattle.rate_plain.proofs.DeadLemmas.{dead_later, dead_decides_nothing}
use Rattle.rate_plain.proofs.laws.dead_keys_decide_nothing.Goals as goal

pub returns-clause-stay : goal.returns-clause-stay
returns-clause-stay c = dead_later

pub returns-clause-answer : goal.returns-clause-answer
returns-clause-answer c = dead_decides_nothing
