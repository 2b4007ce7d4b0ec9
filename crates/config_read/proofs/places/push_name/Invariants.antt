use Rattle.std.proofs.Common.{◌≡◌, ◌++◌, take}
use Rattle.config_read.specs.Places.{placed}
use Rattle.config_read.proofs.places.push_name.Given as goal

-- the bytes before the next one are written
abbrev pub invariant-loop-byte : goal.invariant-loop-byte
invariant-loop-byte l = l.out ≡ l.fn.out ++ placed (take l.byte-index l.name)
