use Rattle.rate_plain.proofs.LaneLemmas.{moment_of-lane, answer_of-lane}
use Rattle.rate_plain.proofs.laws.lane_decides.Goals as goal

pub returns : goal.returns
returns c = record { moment = moment_of-lane; answer = answer_of-lane }
