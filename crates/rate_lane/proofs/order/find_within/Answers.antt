use Rattle.rate_lane.proofs.OrderLemmas.{all_above}
use Rattle.rate_lane.proofs.order.find_within.Goals as goal

pub returns-then-most-nodes-clause-none : goal.returns-then-most-nodes-clause-none
returns-then-most-nodes-clause-none c = all_above c.args.places c.args.most c.args.nodes.now c.requires c.if-most-nodes.true
