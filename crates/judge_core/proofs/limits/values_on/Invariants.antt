-- the values before the next one stand in the text
use Rattle.std.proofs.Common.{◌≡◌, take}
use Rattle.judge_core.specs.Limits.{values_on}
use Rattle.judge_core.specs.Places.{carried_of}
use Rattle.judge_core.proofs.limits.values_on.Given as goal

abbrev pub ghost-push_characteristic : goal.ghost-push_characteristic
ghost-push_characteristic g a = g.listed

abbrev pub invariant-loop-one : goal.invariant-loop-one
invariant-loop-one g l = l.text ≡ values_on g.listed (take l.one-index l.characteristics) (carried_of l.config l.state)
