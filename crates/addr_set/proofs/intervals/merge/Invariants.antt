use Rattle.std.proofs.Common.{◌≡◌, ℕ, ◌<◌, ◌≤◌, length, take, get_or}
use Rattle.std.specs.List.{All}
use Rattle.addr_set.specs.declared.intervals.Interval.{Interval}
use Rattle.addr_set.specs.Intervals.{is_in_any, AreApart}
use Rattle.addr_set.proofs.intervals.merge.Given as goal

-- what is merged has the numbers of the intervals before the next one, and begins no later than those after
abbrev pub invariant-loop-next : goal.invariant-loop-next
invariant-loop-next l = record {
  apart : AreApart l.merged.items;
  begins : (k : ℕ) (e : Interval) → l.next-index ≤ k → k < length l.sorted → All (λ x. x.first ≤ (get_or l.sorted k e).first) l.merged.items;
  same : (number : ℕ) → is_in_any l.merged.items number ≡ is_in_any (take l.next-index l.sorted) number;
}
