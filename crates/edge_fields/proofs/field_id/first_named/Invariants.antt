use Rattle.std.proofs.Common.{◌≢◌, All, take}
use Rattle.edge_fields.specs.Names.{field_name}
use Rattle.edge_fields.proofs.field_id.first_named.Given as goal

-- none of the fields so far has the name
abbrev pub invariant-loop-id : goal.invariant-loop-id
invariant-loop-id l = All (λ id. field_name id ≢ l.name) (take l.id-index l.fields)
