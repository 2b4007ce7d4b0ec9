use Rattle.addr_set.proofs.FlawLemmas.{one_reading}
use Rattle.addr_set.proofs.reading.readings_are_unique.Goals as goal

pub returns : goal.returns
returns c = one_reading
