use Rattle.rate_plain.proofs.LaneLemmas.{moment_of-one, answer_of-one}
use Rattle.rate_plain.proofs.laws.one_lane_is_any.Goals as goal

pub returns : goal.returns
returns c = record { moment = moment_of-one; answer = answer_of-one }
