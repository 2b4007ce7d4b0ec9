use Rattle.http_front.proofs.ReadingLemmas.{exact}
use Rattle.http_front.proofs.requests.answers_are_exact.Goals as goal

pub returns : goal.returns
returns c = exact
