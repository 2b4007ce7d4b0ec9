use Rattle.std.proofs.Common.{◌≡◌, ℕ, take}
use Rattle.edge_base.specs.declared.address.Addr.TheVariants as addr
use Rattle.addr_set.specs.Intervals.{is_in_any}
use Rattle.addr_set.specs.Sets.{has_addr}
use Rattle.addr_set.proofs.set.Families.of.Given as goal

-- the intervals of the items before the next one
abbrev pub invariant-loop-item : goal.invariant-loop-item
invariant-loop-item l = record {
  v4 : (number : ℕ) → is_in_any l.v4.items number ≡ has_addr (take l.item-index l.items) (addr.V4 number);
  v6 : (number : ℕ) → is_in_any l.v6.items number ≡ has_addr (take l.item-index l.items) (addr.V6 number);
}
