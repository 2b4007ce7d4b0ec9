use Rattle.std.proofs.Common.{◌≡◌, length, take}
use Rattle.rate_shared.specs.Close.{HasTaken}
use Rattle.rate_shared.proofs.gathering.write_own.Given as goal

-- the callers so far have their numbers
abbrev pub invariant-loop-seen : goal.invariant-loop-seen
invariant-loop-seen l = record {
  count : length l.own.items ≡ length l.fn.own.items;
  own : HasTaken l.own.items l.seens (take l.seen-index l.seens);
}
