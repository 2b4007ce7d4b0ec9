use Rattle.std.proofs.Common.{length}
use Rattle.type_check.proofs.call.+are_taken.Given as goal

abbrev pub decreases-are_taken : goal.decreases-are_taken
decreases-are_taken l = length l.parameters.now
