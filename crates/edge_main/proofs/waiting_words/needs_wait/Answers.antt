use Rattle.std.proofs.Common.{◌∙◌}
use Rattle.edge_main.proofs.WaitLemmas.{lent_words}
use Rattle.edge_main.proofs.waiting_words.needs_wait.Goals as goal

pub returns : goal.returns
returns c = c.some_waits.ensures ∙ lent_words c.args.words.now
