use Rattle.std.proofs.Common.{◌≢◌, All, take}
use Rattle.edge_fields.specs.Names.{function_name}
use Rattle.edge_fields.proofs.function_id.first_named.Given as goal

-- none of the functions so far has the name
abbrev pub invariant-loop-id : goal.invariant-loop-id
invariant-loop-id l = All (λ id. function_name id ≢ l.name) (take l.id-index l.functions)
