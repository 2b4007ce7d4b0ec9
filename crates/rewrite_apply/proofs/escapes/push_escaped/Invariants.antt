-- the bytes before the next one are added
use Rattle.std.proofs.Common.{◌≡◌, ◌++◌, take}
use Rattle.rewrite_apply.specs.Rewrites.{escaped_in}
use Rattle.rewrite_apply.proofs.escapes.push_escaped.Given as goal

abbrev pub invariant-loop-byte : goal.invariant-loop-byte
invariant-loop-byte l = l.text ≡ l.fn.text ++ escaped_in l.part (take l.byte-index l.bytes)
