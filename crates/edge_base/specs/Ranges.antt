-- Which addresses a range and a block hold.
use Rattle.std.specs.Prelude.{ℕ, ◌-◌, ◌/◌, ◌^◌, ◌==◌, nat_le, Bool, false, ◌&&◌}
use Rattle.edge_base.specs.declared.address.Addr.{Addr}
use Rattle.edge_base.specs.declared.address.Addr.TheVariants as addr

-- whether an address is of the family of two others, and from the first to the last
abbrev pub is_from_to : Addr → Addr → Addr → Bool
is_from_to (addr.V4 first) (addr.V4 last) (addr.V4 number) = nat_le first number && nat_le number last
is_from_to (addr.V6 first) (addr.V6 last) (addr.V6 number) = nat_le first number && nat_le number last
is_from_to first last other = false

-- whether an address is of the family of another, and has the same first bits
abbrev pub shares_bits : Addr → ℕ → Addr → Bool
shares_bits (addr.V4 one) bits (addr.V4 number) = number / 2 ^ (32 - bits) == one / 2 ^ (32 - bits)
shares_bits (addr.V6 one) bits (addr.V6 number) = number / 2 ^ (128 - bits) == one / 2 ^ (128 - bits)
shares_bits one bits other = false
