use Rattle.std.proofs.Common.{ap, ◌∙◌}
use Rattle.rate_lane.specs.Stepping.{is_roomy}
use Rattle.rate_lane.proofs.KeyEqLemmas.{state_of-is}
use Rattle.rate_lane.proofs.lane.Lane.room.Goals as goal

pub returns : goal.returns
returns c = c.has_room.ensures ∙ ap is_roomy (state_of-is c.args.self.now.index.entries c.args.key.now _ c.in-Some.ensures.value)

pub returns-in_default : goal.returns-in_default
returns-in_default c = ap is_roomy (state_of-is c.args.self.now.index.entries c.args.key.now _ c.in_default.ensures.value)
