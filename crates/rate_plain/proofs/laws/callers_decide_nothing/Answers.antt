use Rattle.rate_plain.proofs.CallerLemmas.{moment_of-alike, answer_of-alike}
use Rattle.rate_plain.proofs.laws.callers_decide_nothing.Goals as goal

pub returns : goal.returns
returns c = record { moment = moment_of-alike; answer = answer_of-alike }
