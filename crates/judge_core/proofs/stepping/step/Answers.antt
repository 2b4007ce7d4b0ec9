use Rattle.judge_core.proofs.stepping.step.Goals as goal

pub returns-in-Executed-clause-talk : goal.returns-in-Executed-clause-talk
returns-in-Executed-clause-talk g c = rw c.in-Executed.is c.step_executed.ensures.talk
