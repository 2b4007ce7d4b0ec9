use Rattle.std.proofs.Common.{subst}
use Rattle.rate_lane.specs.KeyState.{StepsKey}
use Rattle.rate_lane.proofs.key_state.KeyState.take.Goals as goal

pub returns-clause-steps : goal.returns-clause-steps
returns-clause-steps c =
    subst (λ state. StepsKey state c.step.new.self c.args.ask.now.key c.args.ask.now.adds c.args.at c.step.result) c.in_ok-make_room.ensures.ok c.step.ensures.steps
