use Rattle.edge_main.proofs.WaitLemmas.{waiting_has_its_word, quiet_has_no_such_word}
use Rattle.edge_main.proofs.laws.waiting_is_told_by_a_word.Goals as goal

pub returns-clause-waiting : goal.returns-clause-waiting
returns-clause-waiting c = waiting_has_its_word

pub returns-clause-quiet : goal.returns-clause-quiet
returns-clause-quiet c = quiet_has_no_such_word
