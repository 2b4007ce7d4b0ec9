-- what is left adds to the ids so far
use Rattle.std.proofs.Common.{◌≡◌, [], drop}
use Rattle.judge_core.specs.Skipping.{ids_under}
use Rattle.judge_core.proofs.merging.ids_under.Given as goal

abbrev pub invariant-loop-one : goal.invariant-loop-one
invariant-loop-one l = ids_under l.id (drop l.one-index l.entries) l.all ≡ ids_under l.id l.entries []
