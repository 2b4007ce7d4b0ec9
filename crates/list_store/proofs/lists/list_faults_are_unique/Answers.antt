use Rattle.list_store.proofs.FaultLemmas.{one_fault}
use Rattle.list_store.proofs.lists.list_faults_are_unique.Goals as goal

pub returns : goal.returns
returns c = one_fault
