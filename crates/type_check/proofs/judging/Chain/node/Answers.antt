use Rattle.type_check.proofs.PlacedLemmas.{placed-and, placed-xor, placed-or}
use Rattle.type_check.proofs.judging.Chain.node.Goals as goal

pub returns-in-And-clause-placed : goal.returns-in-And-clause-placed
returns-in-And-clause-placed c = λ lists. placed-and lists c.args.members

pub returns-in-Xor-clause-placed : goal.returns-in-Xor-clause-placed
returns-in-Xor-clause-placed c = λ lists. placed-xor lists c.args.members

pub returns-in-Or-clause-placed : goal.returns-in-Or-clause-placed
returns-in-Or-clause-placed c = λ lists. placed-or lists c.args.members
