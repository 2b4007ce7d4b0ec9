-- what was left at first is what is left now
use Rattle.std.proofs.Common.{◌≡◌}
use Rattle.judge_core.specs.Machine.{left, weight}
use Rattle.judge_core.specs.Places.{carried_of}
use Rattle.judge_core.proofs.running.run.Given as goal

abbrev pub ghost-step : goal.ghost-step
ghost-step g a = g.listed

abbrev pub invariant-steps : goal.invariant-steps
invariant-steps g l =
    left g.listed l.config l.fn.from (carried_of l.config l.fn.state) ≡ left g.listed l.config l.place (carried_of l.config l.state)

abbrev pub decreases-steps : goal.decreases-steps
decreases-steps g l = weight l.place
