use Rattle.std.proofs.Common.{[], refl, sym, subst}
use Rattle.rate_lane.specs.Index.{KeepsAll}
use Rattle.rate_lane.proofs.lane.Lane.new.Goals as goal

-- of no steps no key is live
pub returns-clause-empty : goal.returns-clause-empty
returns-clause-empty c = record {
  moment = c.in-Some.ensures.1;
  keeps = subst (λ es. KeepsAll es c.in-Some.moment []) (sym c.in_ok-index.ensures.empty) (λ key later h. refl);
}
