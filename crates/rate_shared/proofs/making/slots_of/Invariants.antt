use Rattle.std.proofs.Common.{◌≡◌, ◌++◌, All, length}
use Rattle.rate_shared.specs.Hands.{IsNew}
use Rattle.rate_shared.proofs.making.slots_of.Given as goal

-- a lane for each hasher so far
abbrev pub invariant-loop-hasher : goal.invariant-loop-hasher
invariant-loop-hasher l = record {
  count : length l.slots.items ≡ length l.yielded;
  left : l.yielded ++ l.hasher-iterator.rest.items ≡ l.fn.hashers.items;
  new : All (IsNew l.cap) l.slots.items;
}
