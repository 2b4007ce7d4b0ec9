use Rattle.std.proofs.Common.{arith}
use Rattle.tree_eval.proofs.TestLemmas.{none_shared}
use Rattle.tree_eval.proofs.testing.share_first_bits.Goals as goal

pub returns-else-last_bits-lt128 : goal.returns-else-last_bits-lt128
returns-else-last_bits-lt128 c = none_shared c.args.one c.args.other c.args.last_bits (omega arith) (omega arith) (omega arith)
