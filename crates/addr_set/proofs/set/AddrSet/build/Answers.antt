use Rattle.std.proofs.Common.{◌≡◌, ℕ, List, ◌∙◌, ap}
use Rattle.edge_base.specs.declared.address.Addr.{Addr}
use Rattle.edge_base.specs.declared.address.Addr.TheVariants as addr
use Rattle.edge_base.specs.declared.expression.Item.{Item}
use Rattle.addr_set.specs.declared.set.AddrSet.{AddrSet}
use Rattle.addr_set.specs.Intervals.{is_in_any}
use Rattle.addr_set.specs.Sets.{has_addr, addresses_of}
use Rattle.addr_set.proofs.set.AddrSet.build.Goals as goal

each : (set : AddrSet) (items : List Item) → ((number : ℕ) → is_in_any set.v4.list.items number ≡ has_addr items (addr.V4 number)) → ((number : ℕ) → is_in_any set.v6.list.items number ≡ has_addr items (addr.V6 number)) → (address : Addr) → addresses_of set address ≡ has_addr items address
each set items v4 v6 (addr.V4 number) = v4 number
each set items v4 v6 (addr.V6 number) = v6 number

pub returns : goal.returns
returns c =
    let same = each (record { v4 = c.in_ok-v4-2.v4; v6 = c.in_ok-v6.v6 }) c.args.items.now
    (λ number. ap (λ test. test number) c.in_ok-v4-2.ensures ∙ c.in_ok-v4.ensures.v4 number ∙ ap (λ items. has_addr items (addr.V4 number)) c.as_slice.ensures)
    (λ number. ap (λ test. test number) c.in_ok-v6.ensures ∙ c.in_ok-v4.ensures.v6 number ∙ ap (λ items. has_addr items (addr.V6 number)) c.as_slice.ensures) in
    λ i address. same address i
