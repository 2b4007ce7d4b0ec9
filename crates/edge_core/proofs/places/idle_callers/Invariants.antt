use Rattle.std.proofs.Common.{◌≡◌, replicate}
use Rattle.edge_core.specs.declared.caller.Caller.TheVariants as caller
use Rattle.edge_core.proofs.places.idle_callers.Given as goal

abbrev pub invariant-loop : goal.invariant-loop
invariant-loop l = l.callers.items ≡ replicate l.counter caller.Idle
