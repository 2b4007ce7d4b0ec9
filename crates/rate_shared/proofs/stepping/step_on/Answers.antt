use Rattle.std.proofs.Common.{◌≡◌, sym, ap, ◌∙◌, subst}
use Rattle.rate_lane.specs.Lane.{IsLaneOf}
use Rattle.rate_shared.specs.Rule.{turn_word}
use Rattle.rate_shared.specs.Steps.{turned}
use Rattle.rate_shared.specs.Hands.{seen_of, holding}
use Rattle.rate_shared.proofs.Stepped.{step_tells}
use Rattle.rate_shared.proofs.stepping.step_on.Goals as goal

pub give_turn-requires-clause-out : goal.give_turn-requires-clause-out
give_turn-requires-clause-out g c =
    let back = c.put_lane.ensures.back in
    let hand = c.count-counted.ensures.hand in
    (c.count-counted.new.lane, ap (λ m. m.1) back, (hand.0 ∙ sym (ap (λ m. m.0.shape.cap) back), subst (IsLaneOf c.count-counted.new.lane) (sym (ap (λ m. m.0.mine) back)) hand.1))

pub returns-clause-counted : goal.returns-clause-counted
returns-clause-counted g c =
    let m0 = c.args.place.now.me in
    let m1 = c.take_turn.new.place.me in
    let m2 = c.take_lane-taken.new.place.me in
    let out = c.take_lane-taken.ensures.view in
    let view : m2.0 ≡ holding m0.0.shape c.args.caller (seen_of m0) c.args.lane m2.0.mine =
    ap (λ m. m.0) out
    ∙ c.take_turn.ensures.took.1
    ∙ ap (λ m. turned m.0 (turn_word c.args.lane) m1.0.mine) c.requires.idle
    ∙ ap (holding m0.0.shape c.args.caller (seen_of m0) c.args.lane) (sym (ap (λ m. m.0.mine) out)) in
    step_tells m0.0.shape c.args.caller c.args.lane (seen_of m0) m2 c.count-counted.new.place.me c.give_turn.new.place.me view c.args.ask.now c.count-counted.result
    (ap seen_of c.give_turn.ensures.gave ∙ ap seen_of c.put_lane.ensures.back) c.count-counted.ensures.answer c.count-counted.ensures.drew
