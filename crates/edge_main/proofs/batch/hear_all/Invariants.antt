use Rattle.gate_run.specs.Passes.{seen_by, shape_in}
use Rattle.edge_main.specs.Crewed.{HasWatched, HasTold, HaveGone, IsShared}
use Rattle.edge_main.proofs.batch.hear_all.Given as goal

-- the first worker has heard what each so far has seen
abbrev pub invariant-hearing : goal.invariant-hearing
invariant-hearing l = record {
  first : HasWatched l.fn.first l.first;
  shared : IsShared (shape_in l.gate) (seen_by l.first.pass);
  others : HaveGone (HasTold (seen_by l.first.pass)) l.k l.fn.others l.others;
}
