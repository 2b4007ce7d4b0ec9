use Rattle.rate_plain.proofs.BoundLemmas.{live_within}
use Rattle.rate_plain.proofs.laws.live_stays_within.Goals as goal

pub returns : goal.returns
returns c = live_within
