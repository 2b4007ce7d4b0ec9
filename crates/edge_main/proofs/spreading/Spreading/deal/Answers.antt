use Rattle.std.proofs.Common.{refl}
use Rattle.edge_main.proofs.RunLemmas.{OnOk-said}
use Rattle.edge_main.proofs.SpreadingLemmas.{OnOk-both, request-taken, goes-on-dealt}
use Rattle.edge_main.proofs.spreading.Spreading.deal.Goals as goal

pub returns-clause-takes : goal.returns-clause-takes
returns-clause-takes c =
    let old = c.args.self.now in
    OnOk-said c.deal.result _ _
    (λ deals given ask before now text left under.
    request-taken old (record old { crew = c.deal.new.self }) c.args.recorded before now text given left deals ask refl under)
    c.deal.ensures.deals

pub returns-clause-goes : goal.returns-clause-goes
returns-clause-goes c =
    OnOk-both c.deal.result _ _ _
    (λ deals one given ask. goes-on-dealt c.args.self.now.crew c.deal.new.self c.args.recorded given deals ask one c.requires.somewhere)
    c.deal.ensures.deals c.deal.ensures.lines
