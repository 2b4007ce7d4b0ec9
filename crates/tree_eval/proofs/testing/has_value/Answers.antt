use Rattle.tree_eval.proofs.TestLemmas.{has_addr_value}
use Rattle.tree_eval.proofs.testing.has_value.Goals as goal

pub returns-in-Addr-Addr : goal.returns-in-Addr-Addr
returns-in-Addr-Addr c d =
    has_addr_value c.parts.result.now c.args.lists.now c.args.list d c.index-parts-list.result c.args.value.now c.in-Addr-Addr.addr c.has_addr.result
    c.requires c.parts.ensures c.in-Addr-Addr.is-0 c.in-Addr-Addr.is-1 (c.has_addr.ensures d)
