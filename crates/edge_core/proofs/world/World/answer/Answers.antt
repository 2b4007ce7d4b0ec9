use Rattle.std.proofs.Common.{List, sym, ap, ◌∙◌, slice_set}
use Rattle.edge_core.specs.declared.caller.Caller.{Caller}
use Rattle.edge_core.specs.declared.caller.Caller.TheVariants as callers
use Rattle.edge_core.proofs.PlaceLemmas.{set_again}
use Rattle.edge_core.proofs.world.World.answer.Goals as goal

pub returns-clause-ok : goal.returns-clause-ok
returns-clause-ok g c =
    let caller = c.args.caller in
    let next = c.in_ok-state.state in
    let before = c.args.self.now.callers.items in (
      c.in-Some.state,
      next,
      sym c.take_out.ensures.taken ∙ c.in-Some.is,
      c.in_ok-state.ensures,
      c.put_back.ensures.callers ∙ ap (λ (ones : List Caller). slice_set ones caller next) c.take_out.ensures.rest
          ∙ set_again before caller callers.Idle next,
    )
