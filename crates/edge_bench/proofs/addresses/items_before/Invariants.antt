use Rattle.std.specs.List.{All}
use Rattle.addr_set.specs.Sets.{IsAddrItem}
use Rattle.edge_bench.proofs.addresses.items_before.Given as goal

abbrev pub invariant-loop-place : goal.invariant-loop-place
invariant-loop-place l = All IsAddrItem l.items
