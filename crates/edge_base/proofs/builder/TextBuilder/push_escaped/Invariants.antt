use Rattle.std.proofs.Common.{◌≡◌, ◌++◌, take}
use Rattle.edge_base.specs.Printed.{escaped}
use Rattle.edge_base.proofs.builder.TextBuilder.push_escaped.Given as goal

-- the bytes before the next one are written
abbrev pub invariant-loop-byte : goal.invariant-loop-byte
invariant-loop-byte l = l.self ≡ l.fn.self ++ escaped (take l.byte-index l.text)
