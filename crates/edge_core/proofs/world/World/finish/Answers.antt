use Rattle.std.proofs.Common.{◌≡◌, List, refl, sym, ap, ◌∙◌, slice_set}
use Rattle.edge_base.proofs.FrontLemmas.{on_err_from}
use Rattle.edge_core.specs.Stands.{terms_of}
use Rattle.edge_core.specs.Steps.{finishing, given_up}
use Rattle.edge_core.specs.declared.caller.Caller.{Caller}
use Rattle.edge_core.proofs.PlaceLemmas.{none_of}
use Rattle.edge_core.proofs.WorldLemmas.{not_there, put_back, taken_out}
use Rattle.edge_core.proofs.world.World.finish.Goals as goal

pub returns-in_default-clause-ok : goal.returns-in_default-clause-ok
returns-in_default-clause-ok g c meaning lanes cap parts is =
    let taken = c.take_out.ensures in
    not_there g.T.Tally.stands (terms_of meaning lanes cap) c.args.self.now parts c.args.caller is c.take_out.new.self (finishing meaning)
    (sym taken.taken ∙ none_of c.take_out.result c.in_default.not-Some) taken.tally taken.version taken.rest

pub returns-clause-ok : goal.returns-clause-ok
returns-clause-ok g c meaning lanes cap parts is =
    let callers = c.put_back.ensures.callers ∙ ap (λ (ones : List Caller). slice_set ones c.args.caller c.in_ok-state.state) c.take_out.ensures.rest in
    put_back g.T.Tally.stands (terms_of meaning lanes cap) c.args.self.now parts c.args.caller is c.put_back.new.self (finishing meaning) c.in-Some.state (c.in_ok-state.state, c.in_ok-state.shown)
    (sym c.take_out.ensures.taken ∙ c.in-Some.is) (c.in_ok-state.ensures meaning)
    (c.put_back.ensures.tally ∙ c.take_out.ensures.tally) (c.put_back.ensures.version ∙ c.take_out.ensures.version) callers

pub returns-in_err-state-clause-err : goal.returns-in_err-state-clause-err
returns-in_err-state-clause-err g c =
    let taken = c.take_out.ensures in
    on_err_from c.from_residual.result
    (λ meaning lanes cap parts is. (given_up c.args.caller parts, refl, taken_out g.T.Tally.stands (terms_of meaning lanes cap) c.args.self.now parts c.args.caller is c.take_out.new.self taken.tally taken.version taken.rest))
