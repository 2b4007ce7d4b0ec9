use Rattle.std.proofs.Common.{◌≡◌, List, ℕ, map, filter, Bor}
use Rattle.std.specs.Map.{values_of}
use Rattle.edge_fields.specs.declared.value.Value.TheVariants as value
use Rattle.edge_fields.specs.Target.{has_bytes, argument_of}
use Rattle.edge_fields.proofs.arguments.argument_values.Given as goal

-- the pieces so far are taken
abbrev pub invariant-loop-piece : goal.invariant-loop-piece
invariant-loop-piece l =
    l.values ≡ map value.Text (values_of (map argument_of (filter has_bytes (map (λ (piece : Bor (List ℕ)). piece.now) l.yielded))))
