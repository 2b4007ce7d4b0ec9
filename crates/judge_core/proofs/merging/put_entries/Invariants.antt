-- what is left to put completes what was put
use Rattle.std.proofs.Common.{◌≡◌, drop}
use Rattle.judge_core.specs.Skipping.{put_entries}
use Rattle.judge_core.proofs.merging.put_entries.Given as goal

abbrev pub invariant-loop-id : goal.invariant-loop-id
invariant-loop-id l = put_entries (drop l.id-index l.more) l.entries ≡ put_entries l.more l.fn.entries
