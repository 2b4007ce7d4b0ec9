use Rattle.rate_shared.specs.Callers.{IsOf}
use Rattle.edge_bench.proofs.shared.steps_of.Given as goal

-- the caller stays one of these counters
abbrev pub invariant-loop-step : goal.invariant-loop-step
invariant-loop-step g l = IsOf l.counters l.seen
