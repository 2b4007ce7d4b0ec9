use Rattle.std.proofs.Common.{◌≡◌, List, sym, ap, ◌∙◌, slice_set}
use Rattle.edge_core.specs.Stands.{terms_of}
use Rattle.edge_core.specs.Steps.{arriving}
use Rattle.edge_core.specs.declared.caller.Caller.{Caller}
use Rattle.edge_core.proofs.PlaceLemmas.{none_of}
use Rattle.edge_core.proofs.WorldLemmas.{not_there, put_back}
use Rattle.edge_core.proofs.world.World.arrive.Goals as goal

pub returns-in_default : goal.returns-in_default
returns-in_default g c meaning lanes cap parts is =
    let taken = c.take_out.ensures in
    not_there g.T.Tally.stands (terms_of meaning lanes cap) c.args.self.now parts c.args.caller is c.take_out.new.self (arriving c.args.request)
    (sym taken.taken ∙ none_of c.take_out.result c.in_default.not-Some) taken.tally taken.version taken.rest

pub returns : goal.returns
returns g c meaning lanes cap parts is =
    let callers = c.put_back.ensures.callers ∙ ap (λ (ones : List Caller). slice_set ones c.args.caller c.arrive-state.result.0) c.take_out.ensures.rest in
    put_back g.T.Tally.stands (terms_of meaning lanes cap) c.args.self.now parts c.args.caller is c.put_back.new.self (arriving c.args.request) c.in-Some.state c.arrive-state.result
    (sym c.take_out.ensures.taken ∙ c.in-Some.is) (c.arrive-state.ensures meaning)
    (c.put_back.ensures.tally ∙ c.take_out.ensures.tally) (c.put_back.ensures.version ∙ c.take_out.ensures.version) callers
