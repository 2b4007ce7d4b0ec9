use Rattle.std.proofs.Common.{◌≡◌, [], length}
use Rattle.std.specs.Vec.Iter.{into_iter_items, into_iter_len}
use Rattle.gate_run.specs.Passes.{IsPassOf}
use Rattle.edge_main.specs.Working.{IsSameWorker}
use Rattle.edge_main.proofs.WorkLemmas.{HasDoneSome}
use Rattle.edge_main.proofs.working.Worker.judge_all.Given as goal

-- the jobs that the iterator has given were done
abbrev pub invariant-jobs : goal.invariant-jobs
invariant-jobs g l = record {
  of : IsPassOf l.fn.gate l.self.pass;
  same : IsSameWorker l.fn.self l.self;
  none : l.self.jobs.items ≡ [];
  some : HasDoneSome l.fn.self l.self (into_iter_items l.job-iterator);
  left : into_iter_len l.job-iterator ≡ length (into_iter_items l.job-iterator);
}
