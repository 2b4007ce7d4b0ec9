use Rattle.std.proofs.Common.{◌≡◌, List, ◌∷◌, [], ◌++◌, length, Err, sym, ap, subst, ◌∙◌, arith}
use Rattle.std.specs.Vec.Iter.{into_iter_items}
use Rattle.rate_plain.specs.declared.fault.StepFault.TheVariants as fault
use Rattle.edge_core.specs.Runs.{RunsSo}
use Rattle.edge_core.specs.declared.event.Event.{Event}
use Rattle.edge_core.specs.declared.event.Shown.{Shown}
use Rattle.edge_core.proofs.FaultLemmas.{if_err_from}
use Rattle.edge_core.proofs.RunningLemmas.{goes_on, stands_on, stops, is_crowded}
use Rattle.edge_core.proofs.running.run.Goals as goal

pub loop-event-preserved : goal.loop-event-preserved
loop-event-preserved g c =
    let loop = c.loop-event in
    let all = into_iter_items c.into_iter-event-iterator.result in
    let rest = into_iter_items loop.event-iterator in
    let more = into_iter_items c.next.new.self in
    let steps : rest ≡ c.in-Some.event ∷ more = c.in-Some.ensures.steps.0 in
    let what = c.in_ok-what.what in
    let ran = goes_on g.T.Tally.stands g.meaning all c.args.world.now loop.world c.apply.new.self rest more loop.shown.items c.in-Some.event
    loop.invariant.run steps what c.in_ok-what.ensures.ok in
    record {
      somewhere =
          stands_on g.T.Tally.stands g.meaning all c.args.world.now loop.world c.apply.new.self rest more loop.shown.items c.in-Some.event
          loop.invariant.run steps what loop.invariant.somewhere c.in_ok-what.ensures.ok;
      run =
          subst (λ (shown : List Shown). RunsSo g.T.Tally.stands g.meaning all c.args.world.now c.apply.new.self more shown) (sym c.in_ok-keep.ensures) ran;
      left = (let was = loop.invariant.left in let gone = c.in-Some.ensures.steps.1 in let short = ap length steps in omega arith);
    }

-- the event has ended in a fault
pub returns-in_err-what-clause-err : goal.returns-in_err-what-clause-err
returns-in_err-what-clause-err g c =
    let loop = c.loop-event in
    let rest = into_iter_items loop.event-iterator in
    let more = into_iter_items c.next.new.self in
    let steps : rest ≡ c.in-Some.event ∷ more = c.in-Some.ensures.steps.0 in
    let so =
    subst (λ (events : List Event). RunsSo g.T.Tally.stands g.meaning events c.args.world.now loop.world rest loop.shown.items)
    c.into_iter-event-iterator.ensures.into_iter_gives.0 loop.invariant.run in
    if_err_from c.from_residual.result _ _ c.from_residual.ensures.1
    (stops g.T.Tally.stands g.meaning c.args.events.items c.args.world.now loop.world c.apply.new.self rest more loop.shown.items c.in-Some.event so
    steps _ c.in_err-what.ensures.err (λ same. c.in_err-what.ensures.spent (ap Err same)))

-- what it shows finds no memory
pub returns-in_err-keep-clause-err : goal.returns-in_err-keep-clause-err
returns-in_err-keep-clause-err g c =
    let loop = c.loop-event in
    let rest = into_iter_items loop.event-iterator in
    let more = into_iter_items c.next.new.self in
    let steps : rest ≡ c.in-Some.event ∷ more = c.in-Some.ensures.steps.0 in
    let what = c.in_ok-what.what in
    let so =
    subst (λ (events : List Event). RunsSo g.T.Tally.stands g.meaning events c.args.world.now loop.world rest loop.shown.items)
    c.into_iter-event-iterator.ensures.into_iter_gives.0 loop.invariant.run in
    if_err_from c.from_residual-in_err-keep.result fault.Memory _ c.from_residual-in_err-keep.ensures.1
    (is_crowded g.T.Tally.stands g.meaning c.args.events.items c.args.world.now c.apply.new.self more (loop.shown.items ++ what ∷ [])
    (goes_on g.T.Tally.stands g.meaning c.args.events.items c.args.world.now loop.world c.apply.new.self rest more loop.shown.items c.in-Some.event so
    steps what c.in_ok-what.ensures.ok))
