use Rattle.edge_main.proofs.SpreadingLemmas.{stays-under, stays-settled, idle-somewhere}
use Rattle.edge_main.proofs.spreading.Spreading.settle_due.Goals as goal

pub returns-in_ok-settle-clause-under : goal.returns-in_ok-settle-clause-under
returns-in_ok-settle-clause-under g c = stays-under c.args.self.now c.settle.new.self c.in_ok-settle.ensures.settles

pub returns-in_ok-settle-clause-settled : goal.returns-in_ok-settle-clause-settled
returns-in_ok-settle-clause-settled g c = stays-settled c.args.self.now c.settle.new.self c.in_ok-settle.ensures.settles

pub returns-in_ok-settle-clause-somewhere : goal.returns-in_ok-settle-clause-somewhere
returns-in_ok-settle-clause-somewhere g c = idle-somewhere c.settle.new.self.crew c.in_ok-settle.ensures.idle
