use Rattle.addr_set.proofs.ReadingLemmas.{IsItemText-unique}
use Rattle.addr_set.proofs.reading.item_is_unique.Goals as goal

pub returns : goal.returns
returns c = IsItemText-unique
