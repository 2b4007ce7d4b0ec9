use Rattle.std.proofs.Common.{◌≡◌, take, map}
use Rattle.std.specs.Map.{values_of}
use Rattle.edge_fields.specs.declared.value.Value.TheVariants as value
use Rattle.edge_fields.specs.Fields.{pairs_of}
use Rattle.edge_fields.proofs.headers.header_values.Given as goal

-- the headers so far are taken
abbrev pub invariant-loop-header : goal.invariant-loop-header
invariant-loop-header l = l.values ≡ map value.Text (values_of (pairs_of (take l.header-index l.headers)))
