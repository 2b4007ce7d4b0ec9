-- the entries that stand behind the id are kept
use Rattle.std.proofs.Common.{◌≡◌, take}
use Rattle.judge_core.specs.Skipping.{behind_id}
use Rattle.judge_core.proofs.merging.behind_id.Given as goal

abbrev pub invariant-loop-one : goal.invariant-loop-one
invariant-loop-one l = l.kept ≡ behind_id l.id (take l.one-index l.entries)
