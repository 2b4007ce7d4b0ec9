use Rattle.edge_main.specs.Answered.{opening}
use Rattle.edge_main.proofs.TrialLemmas.{tried_opens}
use Rattle.edge_main.proofs.trial.Trial.new.Goals as goal

pub returns-clause-tried : goal.returns-clause-tried
returns-clause-tried c = (opening, tried_opens _ c.in_ok-new.ensures c.new-2.ensures)

pub returns-clause-lines : goal.returns-clause-lines
returns-clause-lines c = c.in_ok-new.ensures.lines
