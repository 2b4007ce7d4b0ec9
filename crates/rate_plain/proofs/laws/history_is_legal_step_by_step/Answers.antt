use Rattle.rate_plain.proofs.LegalLemmas.{legal_none, legal_more, legal_front}
use Rattle.rate_plain.proofs.laws.history_is_legal_step_by_step.Goals as goal

pub returns : goal.returns
returns c = record { none = legal_none; more = legal_more; front = legal_front }
