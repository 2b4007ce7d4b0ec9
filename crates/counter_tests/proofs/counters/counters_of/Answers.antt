use Rattle.std.proofs.Common.{rules, ◌≡◌, ap, ◌∙◌}
use Rattle.rate_shared.specs.declared.rule.Shape.{Shape}
use Rattle.counter_tests.proofs.counters.counters_of.Goals as goal

pub returns-clause-of : goal.returns-clause-of
returns-clause-of c = λ k d near. (c.in_ok-made.ensures.fresh k d near).0

pub returns-clause-lanes : goal.returns-clause-lanes
returns-clause-lanes c = ap (λ (z : Shape). z.lanes) c.in_ok-made.ensures.shape ∙ search rules
