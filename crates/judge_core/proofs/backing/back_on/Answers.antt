use Rattle.judge_core.proofs.backing.back_on.Goals as goal

pub returns-in-Begins : goal.returns-in-Begins
returns-in-Begins g c = rw c.in-Begins.is c.count_on.ensures

pub returns-in-Counted : goal.returns-in-Counted
returns-in-Counted g c = rw c.in-Counted.is c.count_on-in-Counted.ensures

pub returns-in-None : goal.returns-in-None
returns-in-None g c = rw (c.in-Walked.is, c.in-None.is) c.count_on-in-None.ensures
