use Rattle.std.proofs.Common.{◌<◌, Some, sym, ap, ◌∙◌, true≢false, arith}
use Rattle.std.proofs.lemmas.Map.Steps.{set_value_same}
use Rattle.rate_plain.specs.Keys.{same_key}
use Rattle.rate_lane.proofs.KeyEqLemmas.{state_of-is, written-is}
use Rattle.rate_lane.proofs.SteppingLemmas.{on_err, no_need}
use Rattle.rate_lane.proofs.stepping.step_live.Goals as goal

pub returns-then-live_until-get-clause-unchanged : goal.returns-then-live_until-get-clause-unchanged
returns-then-live_until-get-clause-unchanged c =
    let entries = c.args.index.now.entries in
    let state = c.in-Some.state.now in
    written-is entries _ c.args.ask.now.key state (c.get_mut.follows.holds state).0
    ∙ set_value_same (same_key c.args.ask.now.key) entries state (sym (state_of-is entries c.args.ask.now.key _ c.in-Some.ensures.value))

-- a refused growth leaves the state, and so the entries
pub returns-in_err-answer-clause-err : goal.returns-in_err-answer-clause-err
returns-in_err-answer-clause-err c =
    let entries = c.args.index.now.entries in
    let state = c.in-Some.state.now in
    on_err c.from_residual.result _
    (written-is entries _ c.args.ask.now.key c.take.new.self (c.get_mut.follows.holds c.take.new.self).0
    ∙ set_value_same (same_key c.args.ask.now.key) entries c.take.new.self (sym (state_of-is entries c.args.ask.now.key _ c.in-Some.ensures.value) ∙ ap Some (sym c.in_err-answer.ensures.err)))

pub returns-in_err-answer-clause-no_memory : goal.returns-in_err-answer-clause-no_memory
returns-in_err-answer-clause-no_memory c spared =
    let entries = c.args.index.now.entries in
    let state = c.in-Some.state.now in
    let live : c.args.at < state.live_until = omega (arith, c.if-live_until-get.false, c.live_until.ensures, c.get.ensures.number) in
    absurd (true≢false (sym (c.in_err-answer.ensures.no_memory (no_need entries c.args.ask.now state c.args.at (state_of-is entries c.args.ask.now.key _ c.in-Some.ensures.value) live spared))))

pub returns-clause-live : goal.returns-clause-live
returns-clause-live c =
    let entries = c.args.index.now.entries in
    let state = c.in-Some.state.now in
    record {
      old = state;
      new = c.take.new.self;
      found = sym (state_of-is entries c.args.ask.now.key _ c.in-Some.ensures.value);
      live = omega (arith, c.if-live_until-get.false, c.live_until.ensures, c.get.ensures.number);
      entries = written-is entries _ c.args.ask.now.key c.take.new.self (c.get_mut.follows.holds c.take.new.self).0;
      steps = c.in_ok-answer.ensures.steps;
      longer = c.in_ok-answer.ensures.longer;
      places = c.in_ok-answer.ensures.places;
    }
