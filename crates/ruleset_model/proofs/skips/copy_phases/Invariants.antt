use Rattle.std.proofs.Common.{◌≡◌, take}
use Rattle.ruleset_model.proofs.skips.copy_phases.Given as goal

abbrev pub invariant-loop-phase : goal.invariant-loop-phase
invariant-loop-phase l = l.copy ≡ take l.phase-index l.phases
