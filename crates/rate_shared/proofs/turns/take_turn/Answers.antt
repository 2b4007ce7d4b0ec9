use Rattle.std.proofs.Common.{◌∷◌, sym, ap, ◌∙◌, subst, Some}
use Rattle.rate_lane.specs.Lane.{IsLaneOf}
use Rattle.rate_shared.specs.Rule.{turn_word}
use Rattle.rate_shared.specs.Steps.{turned, TakesLane}
use Rattle.rate_shared.proofs.turns.take_turn.Goals as goal

pub returns-then-try_turn-clause-took : goal.returns-then-try_turn-clause-took
returns-then-try_turn-clause-took g c =
    let was = c.loop.invariant.1 in
    let lane = c.args.lane in
    let t : TakesLane lane c.loop.place.me c.try_turn.new.place.me = c.if-try_turn.ensures.took in
    let mine = sym (ap (λ m. m.0.mine) t.2) in
    let cap = sym (ap (λ m. m.0.shape.cap) t.2) in (
      (
        t.0,
        ap (λ m. m.1) t.2 ∙ ap (λ m. (lane, Some t.0) ∷ m.1) was ∙ ap (λ cs. (lane, Some t.0) ∷ cs) c.requires.idle,
        (t.3.0 ∙ cap, subst (IsLaneOf t.0) mine t.3.1),
      ),
      ap (λ m. m.0) t.2 ∙ ap (λ m. turned m.0 (turn_word lane) t.1) was ∙ ap (turned c.args.place.now.me.0 (turn_word lane)) mine,
    )
