-- The interval of a block.
use Rattle.std.proofs.Common.{◌≡◌, ℕ, ◌-◌, refl}
use Rattle.edge_base.specs.declared.address.Addr.{Addr}
use Rattle.edge_base.specs.declared.address.Addr.TheVariants as addr
use Rattle.addr_set.specs.declared.spans.Span.TheVariants as span
use Rattle.addr_set.specs.Intervals.{block_of}
use Rattle.edge_base.specs.Ranges.{shares_bits}
use Rattle.addr_set.specs.Spans.{is_in_span}
use Rattle.addr_set.proofs.IntervalLemmas.{is_in-block_of}

pub is_in_span-v4 : (one bits : ℕ) (address : Addr) → is_in_span (span.V4 (block_of (32 - bits) one)) address ≡ shares_bits (addr.V4 one) bits address
is_in_span-v4 one bits (addr.V4 number) = is_in-block_of (32 - bits) one number
is_in_span-v4 one bits (addr.V6 number) = refl

pub is_in_span-v6 : (one bits : ℕ) (address : Addr) → is_in_span (span.V6 (block_of (128 - bits) one)) address ≡ shares_bits (addr.V6 one) bits address
is_in_span-v6 one bits (addr.V4 number) = refl
is_in_span-v6 one bits (addr.V6 number) = is_in-block_of (128 - bits) one number
