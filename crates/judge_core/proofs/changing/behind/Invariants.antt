-- the changes before the next one that stand behind the name are kept
use Rattle.std.proofs.Common.{◌≡◌, take}
use Rattle.judge_core.specs.Changing.{behind}
use Rattle.judge_core.proofs.changing.behind.Given as goal

abbrev pub invariant-loop-one : goal.invariant-loop-one
invariant-loop-one l = l.kept ≡ behind l.name (take l.one-index l.changes)
