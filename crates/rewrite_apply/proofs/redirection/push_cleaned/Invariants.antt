-- the bytes before the next one are added, where they may stand
use Rattle.std.proofs.Common.{◌≡◌, ◌++◌, take, filter}
use Rattle.rewrite_apply.specs.Rewrites.{is_location_byte}
use Rattle.rewrite_apply.proofs.redirection.push_cleaned.Given as goal

abbrev pub invariant-loop-byte : goal.invariant-loop-byte
invariant-loop-byte l = l.text ≡ l.fn.text ++ filter is_location_byte (take l.byte-index l.bytes)
