use Rattle.std.proofs.Common.{◌++◌, ◌∙◌, ap}
use Rattle.edge_main.proofs.SpreadingLemmas.{settled-none, settled-batch, idle-none, idle-batch, lines-batch}
use Rattle.edge_main.proofs.spreading.Spreading.settle.Goals as goal

pub returns-then-self-eq0-clause-settles : goal.returns-then-self-eq0-clause-settles
returns-then-self-eq0-clause-settles g c = settled-none c.args.self.now c.if-self-eq0.true

pub returns-then-self-eq0-clause-idle : goal.returns-then-self-eq0-clause-idle
returns-then-self-eq0-clause-idle g c = idle-none c.args.self.now.crew c.if-self-eq0.true c.requires.somewhere

pub returns-clause-settles : goal.returns-clause-settles
returns-clause-settles g c =
    let old = c.args.self.now in
    settled-batch old (record old { crew = c.settle.new.self; pending = c.push.new.self }) c.settle.new.answer c.in_ok-settle.ensures.settles
    (c.in_ok-push.ensures.ok ∙ ap (λ xs. old.pending ++ xs) c.bytes.ensures)

pub returns-clause-lines : goal.returns-clause-lines
returns-clause-lines g c =
    lines-batch c.args.self.now.crew c.settle.new.self c.settle.new.answer c.in_ok-settle.ensures.settles c.requires.somewhere

pub returns-clause-idle : goal.returns-clause-idle
returns-clause-idle g c =
    idle-batch c.args.self.now.crew c.settle.new.self c.settle.new.answer c.in_ok-settle.ensures.settles c.requires.somewhere
