use Rattle.std.proofs.Common.{◌<◌, All, sym, ◌∙◌, subst}
use Rattle.rate_lane.proofs.IndexLemmas.{all_live}
use Rattle.rate_lane.proofs.index.sweep.Goals as goal

-- no number is low any more, so what is left is live
pub returns-clause-kept : goal.returns-clause-kept
returns-clause-kept c key =
    let late = subst (λ at. All (λ number. at < number) c.loop-place.order) c.get.ensures.number c.in_default.ensures.none in
    sym (all_live c.loop-place.index.entries c.loop-place.order c.args.at c.loop-place.invariant.ordered late key) ∙ c.loop-place.invariant.live key
