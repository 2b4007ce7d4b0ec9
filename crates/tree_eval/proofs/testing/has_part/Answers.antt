use Rattle.tree_eval.proofs.PartLemmas.{part_is}
use Rattle.tree_eval.proofs.testing.has_part.Goals as goal

pub returns : goal.returns
returns c = let e = part_is c.args.text.now c.args.part.now c.find.result c.find.ensures in cc
