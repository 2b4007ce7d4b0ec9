use Rattle.std.proofs.Common.{◌≡◌, take}
use Rattle.override_plan.proofs.overrides.copy_named_overrides.Given as goal

abbrev pub invariant-loop-name : goal.invariant-loop-name
invariant-loop-name l = l.copy ≡ take l.name-index l.entries
