use Rattle.std.proofs.Common.{◌≡◌, All, None, take}
use Rattle.edge_main.specs.declared.working.Worker.{Worker}
use Rattle.edge_main.proofs.batch.first_fault.Given as goal

-- the workers so far have no fault
abbrev pub invariant-loop-worker : goal.invariant-loop-worker
invariant-loop-worker l = All (λ (worker : Worker). worker.fault ≡ None) (take l.worker-index l.workers)
