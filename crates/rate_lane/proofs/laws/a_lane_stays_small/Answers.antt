use Rattle.rate_lane.proofs.DroppingLemmas.{few_moments}
use Rattle.rate_lane.proofs.laws.a_lane_stays_small.Goals as goal

pub returns-clause-keys : goal.returns-clause-keys
returns-clause-keys c lane = lane.ordered.within

pub returns-clause-moments : goal.returns-clause-moments
returns-clause-moments c = few_moments
