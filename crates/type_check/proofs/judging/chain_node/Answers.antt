use Rattle.std.proofs.Common.{Ok, ap, sym, subst, ◌∙◌}
use Rattle.type_check.specs.Judging.{IsChainNode}
use Rattle.type_check.specs.Trees.{tree_of, are_placed}
use Rattle.type_check.proofs.judging.chain_node.Goals as goal

pub returns-in_ok-new-in-Ok : goal.returns-in_ok-new-in-Ok
returns-in_ok-new-in-Ok c =
    let is = c.in_ok-new-in-Ok.ensures in
    subst (λ nodes. IsChainNode c.args.chain nodes (Ok c.in_ok-new-in-Ok.field-0)) (sym c.in-Ok.is)
    (ap tree_of is ∙ c.node.ensures.tree, λ lists. ap (are_placed lists) is ∙ c.node.ensures.placed lists)
