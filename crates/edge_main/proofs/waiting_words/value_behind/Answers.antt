use Rattle.edge_main.proofs.WaitLemmas.{value_stripped}
use Rattle.edge_main.proofs.waiting_words.value_behind.Goals as goal

pub returns : goal.returns
returns c = value_stripped c.args.word.now c.strip_prefix.result c.strip_prefix.ensures.cases
