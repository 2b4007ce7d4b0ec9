use Rattle.std.proofs.Common.{◌≡◌, take}
use Rattle.edge_fields.specs.Fields.{pairs_of}
use Rattle.edge_fields.proofs.headers.pairs_of.Given as goal

abbrev pub invariant-loop-header : goal.invariant-loop-header
invariant-loop-header l = l.pairs.items ≡ pairs_of (take l.header-index l.headers)
