use Rattle.std.proofs.Common.{◌∙◌, ap}
use Rattle.tree_eval.specs.Calls.{result_of}
use Rattle.tree_eval.proofs.CallLemmas.{filter_map_step}
use Rattle.tree_eval.proofs.calls.mapped.Goals as goal

pub loop-item-preserved : goal.loop-item-preserved
loop-item-preserved c =
    let h = result_of c.args.id c.args.further.now in
    filter_map_step h c.args.items.now c.loop-item.item-index c.item-item.result c.in_ok-found.found c.loop-item.results c.push_found.new.values
    c.loop-item-test.true c.item-item.is (c.in_ok-found.ensures ∙ ap h c.in_ok-copy.ensures) c.loop-item.invariant c.in_ok-push_found.ensures
