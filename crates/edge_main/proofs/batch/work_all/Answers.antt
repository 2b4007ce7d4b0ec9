use denote.Param.Send.{sendable}
use Rattle.std.proofs.Common.{slice_index_or, subst}
use Rattle.edge_main.specs.Working.{Works}
use Rattle.edge_main.specs.declared.working.Worker.{Worker}
use Rattle.edge_main.proofs.Crosses.{worker_send}
use Rattle.edge_main.proofs.batch.work_all.Goals as goal

pub for_each_mut-requires-send-T : goal.for_each_mut-requires-send-T
for_each_mut-requires-send-T g c κs within = search (worker_send, sendable) depth 60

pub returns-clause-works : goal.returns-clause-works
returns-clause-works g c k d below =
    let at = (c.for_each_mut.ensures k d below).1 in
    subst (λ (w : Worker). Works w (slice_index_or c.for_each_mut.new.s k d)) at.argument_is
    (subst (λ (w : Worker). Works at.argument.now w) at.left at.call)
