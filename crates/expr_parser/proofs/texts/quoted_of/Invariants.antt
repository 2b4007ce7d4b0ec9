use Rattle.std.proofs.Common.{◌≡◌, ◌++◌, false, drop}
use Rattle.std.specs.Option.{option_map}
use Rattle.edge_base.specs.Token.{quoted_of}
use Rattle.expr_parser.proofs.texts.quoted_of.Given as goal

-- what is left goes on with the bytes so far
abbrev pub invariant-loop-at : goal.invariant-loop-at
invariant-loop-at l = option_map (λ more. l.bytes.items ++ more) (quoted_of l.escaped (drop l.at l.text)) ≡ quoted_of false l.text
