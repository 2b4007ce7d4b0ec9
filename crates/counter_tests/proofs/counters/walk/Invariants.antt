use Rattle.rate_shared.specs.Callers.{IsOf}
use Rattle.counter_tests.proofs.counters.walk.Given as goal

-- the caller stays one of these counters
abbrev pub invariant-loop-place : goal.invariant-loop-place
invariant-loop-place g l = IsOf l.counters l.seen
