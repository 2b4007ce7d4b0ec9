use Rattle.std.proofs.Common.{length}
use Rattle.gate_run.specs.Passes.{seens_in}
use Rattle.edge_main.proofs.BatchLemmas.{AreMade}
use Rattle.edge_main.proofs.batch.workers_of.Given as goal

-- the passes that were taken have a worker each
abbrev pub invariant-passes : goal.invariant-passes
invariant-passes l = AreMade l.number (seens_in l.passes) (seens_in l.fn.passes) l.workers.items

abbrev pub decreases-passes : goal.decreases-passes
decreases-passes l = length (seens_in l.passes)
