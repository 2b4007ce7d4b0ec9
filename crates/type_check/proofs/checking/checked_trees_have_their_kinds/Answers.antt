use Rattle.type_check.proofs.KindLemmas.{kinds_hold}
use Rattle.type_check.proofs.checking.checked_trees_have_their_kinds.Goals as goal

pub returns : goal.returns
returns c = kinds_hold
