use Rattle.edge_bench.proofs.shared.counters_for.Goals as goal

pub returns : goal.returns
returns c = λ k d near. (c.in_ok-made.ensures.fresh k d near).0
