-- the changes before the next one that stand before the name are kept
use Rattle.std.proofs.Common.{◌≡◌, take}
use Rattle.judge_core.specs.Changing.{before}
use Rattle.judge_core.proofs.changing.before.Given as goal

abbrev pub invariant-loop-one : goal.invariant-loop-one
invariant-loop-one l = l.kept ≡ before l.name (take l.one-index l.changes)
