use Rattle.std.proofs.Common.{◌≡◌, ◌++◌, take, drop}
use Rattle.std.specs.Option.{option_map}
use Rattle.edge_base.specs.Token.{raw_bytes_of}
use Rattle.expr_parser.proofs.texts.raw_bytes_of.Given as goal

-- what is left goes on with the bytes so far
abbrev pub invariant-loop-at : goal.invariant-loop-at
invariant-loop-at l = option_map (λ more. take l.at l.text ++ more) (raw_bytes_of l.marks (drop l.at l.text)) ≡ raw_bytes_of l.marks l.text
