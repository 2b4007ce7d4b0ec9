use Rattle.std.proofs.Common.{◌∙◌}
use Rattle.judge_core.proofs.running.run.Goals as goal

pub returns-in-Closed : goal.returns-in-Closed
returns-in-Closed g c = c.steps.invariant ∙ rw c.in-Closed.is at c.in_ok-next.ensures.talk

pub returns-in-Passed : goal.returns-in-Passed
returns-in-Passed g c = c.steps.invariant ∙ rw c.in-Passed.is at c.in_ok-next.ensures.talk

pub returns-in-Asks : goal.returns-in-Asks
returns-in-Asks g c = c.steps.invariant ∙ rw c.in-Asks.is at c.in_ok-next.ensures.talk
