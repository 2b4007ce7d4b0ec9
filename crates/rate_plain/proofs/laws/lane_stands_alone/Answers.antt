use Rattle.rate_plain.proofs.LaneLemmas.{moment_of-alone, answer_of-alone}
use Rattle.rate_plain.proofs.laws.lane_stands_alone.Goals as goal

pub returns : goal.returns
returns c = record { moment = moment_of-alone; answer = answer_of-alone }
