use Rattle.rate_plain.proofs.BoundLemmas.{counted_within}
use Rattle.rate_plain.proofs.laws.counted_stays_within.Goals as goal

pub returns : goal.returns
returns c = counted_within
