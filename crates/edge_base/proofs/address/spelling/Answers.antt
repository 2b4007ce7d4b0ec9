use Rattle.std.proofs.Common.{◌≡◌, ◌∙◌, ap, arith}
use Rattle.std.specs.Net.Addr.{ipv6_segments}
use Rattle.std.specs.Net.Text.{hex_groups_text}
use Rattle.std.specs.String.{string_bytes}
use Rattle.edge_base.specs.declared.address.Addr.TheVariants as addr
use Rattle.edge_base.specs.Address.{addr_text}
use Rattle.edge_base.proofs.AddressLemmas.{ipv4_text-number, hex_groups_text-number, IsAddrText-printed_v4, IsAddrText-printed_v6}
use Rattle.edge_base.proofs.address.spelling.Goals as goal

v4-written : (c : goal.In_ok-to_string-in-V4) → string_bytes c.in_ok-to_string-in-V4.field-0 ≡ addr_text (addr.V4 c.in-V4.number)
v4-written c = c.in_ok-to_string-in-V4.ensures.ok ∙ ipv4_text-number c.in-V4.number c.from_bits.result c.from_bits.ensures

v6-written : (c : goal.In_ok-to_string-in-V6) → string_bytes c.in_ok-to_string-in-V6.field-0 ≡ addr_text (addr.V6 c.in-V6.number)
v6-written c =
    c.in_ok-to_string-in-V6.ensures.ok
    ∙ ap (λ a. hex_groups_text (ipv6_segments a)) c.hex_groups.ensures
    ∙ hex_groups_text-number c.in-V6.number c.from_bits-in-V6.result c.from_bits-in-V6.ensures

pub returns-in_ok-to_string-in-V4 : goal.returns-in_ok-to_string-in-V4
returns-in_ok-to_string-in-V4 c = record {
  text = rw c.in-V4.is (v4-written c);
  read = rw (c.in-V4.is, v4-written c) (IsAddrText-printed_v4 c.in-V4.number (omega arith));
}

pub returns-in_ok-to_string-in-V6 : goal.returns-in_ok-to_string-in-V6
returns-in_ok-to_string-in-V6 c = record {
  text = rw c.in-V6.is (v6-written c);
  read = rw (c.in-V6.is, v6-written c) (IsAddrText-printed_v6 c.in-V6.number (omega arith));
}
