use Rattle.std.proofs.Common.{refl}
use Rattle.config_read.proofs.FilterLemmas.{counting_built}
use Rattle.config_read.proofs.judging.counting_of.Goals as goal

pub returns-in_ok-of-in-Ok-clause-built : goal.returns-in_ok-of-in-Ok-clause-built
returns-in_ok-of-in-Ok-clause-built c =
    counting_built c.args.scheme.now c.args.text.now c.in-Ok.typed c.in-Ok.reply _ c.in-Ok.ensures.typed c.in-Ok.ensures.reply c.of.ensures.tree c.of.ensures.kind c.of.ensures.lists
    c.in_ok-of-in-Ok.ensures refl
