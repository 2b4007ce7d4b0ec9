use Rattle.std.proofs.Common.{◌≡◌, take}
use Rattle.rate_plain.specs.Hash.{fnv1a64_on}
use Rattle.rate_plain.proofs.hash.fnv1a64_on.Given as goal

-- the bytes before the next one are hashed
abbrev pub invariant-loop-byte : goal.invariant-loop-byte
invariant-loop-byte l = l.hash ≡ fnv1a64_on l.fn.front (take l.byte-index l.bytes)
