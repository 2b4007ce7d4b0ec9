use Rattle.rate_lane.proofs.DroppingLemmas.{dropping_keeps}
use Rattle.rate_lane.proofs.laws.dead_keys_can_be_dropped.Goals as goal

pub returns : goal.returns
returns c = dropping_keeps
