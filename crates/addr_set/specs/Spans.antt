-- Working vocabulary, which no public clause cites.
-- The interval of one item.
use Rattle.std.specs.Prelude.{Bool, false}
use Rattle.edge_base.specs.declared.address.Addr.{Addr}
use Rattle.edge_base.specs.declared.address.Addr.TheVariants as addr
use Rattle.addr_set.specs.declared.spans.Span.{Span}
use Rattle.addr_set.specs.declared.spans.Span.TheVariants as span
use Rattle.addr_set.specs.Intervals.{is_in}

-- whether an address is of the family of a span, and in its interval
abbrev pub is_in_span : Span → Addr → Bool
is_in_span (span.V4 interval) (addr.V4 number) = is_in interval number
is_in_span (span.V6 interval) (addr.V6 number) = is_in interval number
is_in_span other address = false
