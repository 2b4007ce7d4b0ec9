-- what was left of the kept rules at first is what is left now
use Rattle.std.proofs.Common.{◌≡◌, ◌-◌, drop, length}
use Rattle.judge_core.specs.Judging.{kept_then}
use Rattle.judge_core.specs.Places.{carried_of}
use Rattle.judge_core.proofs.counting.next_count.Given as goal

abbrev pub ghost-counts : goal.ghost-counts
ghost-counts g a = g.listed

abbrev pub invariant-kept : goal.invariant-kept
invariant-kept g l =
    kept_then g.listed l.config l.at (carried_of l.config l.state) (drop l.fn.from l.kept)
    ≡ kept_then g.listed l.config l.at (carried_of l.config l.state) (drop l.number l.kept)

abbrev pub decreases-kept : goal.decreases-kept
decreases-kept g l = length l.kept - l.number
