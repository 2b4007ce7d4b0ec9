use Rattle.gate_run.specs.Passes.{seen_by}
use Rattle.edge_main.specs.Crewed.{HasWatched, HasHeard, HaveGone}
use Rattle.edge_main.proofs.batch.tell_all.Given as goal

-- each so far has heard what the first worker had seen
abbrev pub invariant-telling : goal.invariant-telling
invariant-telling l = record {
  first : HasWatched l.fn.first l.first;
  others : HaveGone (HasHeard (seen_by l.fn.first.pass)) l.k l.fn.others l.others;
}
