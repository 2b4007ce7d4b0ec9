use Rattle.std.proofs.Common.{◌≡◌, ℕ, ◌-◌, ◌∙◌, ap, ap₂}
use Rattle.edge_base.specs.declared.address.Addr.{Addr}
use Rattle.edge_base.specs.declared.address.Addr.TheVariants as addr
use Rattle.addr_set.specs.declared.spans.Span.TheVariants as span
use Rattle.addr_set.specs.declared.intervals.Interval.{Interval}
use Rattle.addr_set.specs.Intervals.{block_of}
use Rattle.edge_base.specs.Ranges.{shares_bits}
use Rattle.addr_set.specs.Spans.{is_in_span}
use Rattle.addr_set.proofs.SpanLemmas.{is_in_span-v4, is_in_span-v6}
use Rattle.addr_set.proofs.spans.block.Goals as goal

v4 : (one : Addr) (number bits : ℕ) (interval : Interval) → one ≡ addr.V4 number → interval ≡ block_of (32 - bits) number → (address : Addr) → is_in_span (span.V4 interval) address ≡ shares_bits one bits address
v4 one number bits interval is made address =
    rw (is, made) (is_in_span-v4 number bits address)

v6 : (one : Addr) (number bits : ℕ) (interval : Interval) → one ≡ addr.V6 number → interval ≡ block_of (128 - bits) number → (address : Addr) → is_in_span (span.V6 interval) address ≡ shares_bits one bits address
v6 one number bits interval is made address =
    rw (is, made) (is_in_span-v6 number bits address)

pub returns-in-V4 : goal.returns-in-V4
returns-in-V4 c = v4 c.args.one c.in-V4.number c.args.bits c.block.result c.in-V4.is (c.block.ensures ∙ ap₂ (λ b n. block_of (32 - b) n) c.from-in-V4.ensures c.from.ensures)

pub returns-in-V6 : goal.returns-in-V6
returns-in-V6 c = v6 c.args.one c.in-V6.number c.args.bits c.block-in-V6.result c.in-V6.is (c.block-in-V6.ensures ∙ ap (λ b. block_of (128 - b) c.in-V6.number) c.from-in-V6.ensures)
