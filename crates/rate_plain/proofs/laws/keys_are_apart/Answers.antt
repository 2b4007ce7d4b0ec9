use Rattle.rate_plain.proofs.BytesLemmas.{keys_apart}
use Rattle.rate_plain.proofs.KeyLemmas.{same_key-Decides}
use Rattle.rate_plain.proofs.laws.keys_are_apart.Goals as goal

pub returns : goal.returns
returns c = record { bytes = keys_apart; test = same_key-Decides }
