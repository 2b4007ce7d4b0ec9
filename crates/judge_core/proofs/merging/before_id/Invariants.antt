-- the entries that stand before the id are kept
use Rattle.std.proofs.Common.{◌≡◌, take}
use Rattle.judge_core.specs.Skipping.{before_id}
use Rattle.judge_core.proofs.merging.before_id.Given as goal

abbrev pub invariant-loop-one : goal.invariant-loop-one
invariant-loop-one l = l.kept ≡ before_id l.id (take l.one-index l.entries)
