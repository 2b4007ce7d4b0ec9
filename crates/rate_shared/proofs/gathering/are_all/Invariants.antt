use Rattle.rate_shared.specs.Close.{AreAll}
use Rattle.rate_shared.proofs.gathering.are_all.Given as goal

-- the callers so far are there
abbrev pub invariant-loop-caller : goal.invariant-loop-caller
invariant-loop-caller l = AreAll l.caller l.seens
