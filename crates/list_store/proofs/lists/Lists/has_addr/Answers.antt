use Rattle.std.proofs.Common.{◌≡◌, length, ap, arith, sym, ◌∙◌}
use Rattle.edge_fields.specs.declared.kind.Basic.TheVariants as basic
use Rattle.list_store.proofs.ListLemmas.{AreMembersOf-at, first_part, length-zip}
use Rattle.list_store.proofs.lists.Lists.has_addr.Goals as goal

pub index-requires : goal.index-requires
index-requires c =
    let here = c.self.inside in
    omega (arith, length-zip here.parts here.members.items c.self.invariant, here.members.ok.0, ap length c.self.view_is, c.requires.within)

pub unreachable-requires : goal.unreachable-requires
unreachable-requires c =
    let now = c.args.self.now in
    let some = first_part now c.args.list c.requires.within in
    let members = AreMembersOf-at c.self.inside.parts now c.self.inside.members.items c.args.list some c.index.result.now c.self.view_is c.self.invariant c.requires.within c.index.ensures in
    let texts = rw c.in-Texts.is at members in
    let both : basic.Text ≡ basic.Addr = sym texts.0 ∙ c.requires.is_kind some in
    cc

pub returns : goal.returns
returns c d =
    let now = c.args.self.now in
    let members = AreMembersOf-at c.self.inside.parts now c.self.inside.members.items c.args.list d c.index.result.now c.self.view_is c.self.invariant c.requires.within c.index.ensures in
    let addrs = rw c.in-Addrs.is at members in
    rw c.has.ensures (addrs.1 c.args.addr)
