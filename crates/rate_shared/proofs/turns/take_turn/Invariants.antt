use Rattle.std.proofs.Common.{◌≡◌}
use Rattle.rate_shared.specs.Hands.{IsSameSeat}
use Rattle.rate_shared.proofs.turns.take_turn.Given as goal

-- while it waits, the seat stays as it was
abbrev pub invariant-loop : goal.invariant-loop
invariant-loop g l = IsSameSeat l.initial.place l.place × (l.place.me ≡ l.initial.place.me)
