use Rattle.edge_base.specs.declared.address.Addr.TheVariants as addr
use Rattle.edge_base.proofs.AddressLemmas.{IsAddrText-ipv4, IsAddrText-ipv6}
use Rattle.edge_base.proofs.address.parse_addr.Goals as goal

pub returns-in-Ok : goal.returns-in-Ok
returns-in-Ok c = rw c.to_bits.ensures (IsAddrText-ipv4 c.args.text.now c.in-Ok.addr c.in-Ok.ensures)

pub returns-in-Ok-parse_ascii : goal.returns-in-Ok-parse_ascii
returns-in-Ok-parse_ascii c =
    rw c.to_bits-in-Ok-parse_ascii.ensures (IsAddrText-ipv6 c.args.text.now c.in-Ok-parse_ascii.addr c.in-Ok-parse_ascii.ensures)

pub returns-in-Err : goal.returns-in-Err
returns-in-Err c (addr.V4 n) h = c.in_default.ensures (record { octets = h.0 }) h.1
returns-in-Err c (addr.V6 n) h = c.in-Err.ensures (record { segments = h.0 }) h.1
