use Rattle.std.proofs.Common.{◌≡◌, ◌++◌}
use Rattle.edge_fields.specs.Maps.{map_of}
use Rattle.edge_fields.proofs.value.map.Given as goal

-- the pairs so far are taken, and the others are left
abbrev pub invariant-loop-key : goal.invariant-loop-key
invariant-loop-key l = record {
  taken : l.map ≡ map_of l.yielded;
  left : l.yielded ++ l.key-iterator.rest.items ≡ l.fn.pairs.items;
}
