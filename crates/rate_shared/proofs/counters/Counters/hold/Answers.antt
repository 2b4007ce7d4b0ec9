use Rattle.std.proofs.Common.{◌<◌, sym, ◌∙◌, subst}
use Rattle.rate_shared.specs.declared.rule.Shape.{Shape}
use Rattle.rate_shared.proofs.SeenLemmas.{held_shape, is_held}
use Rattle.rate_shared.proofs.counters.Counters.hold.Goals as goal

pub returns-clause-of : goal.returns-clause-of
returns-clause-of g c =
    let s = c.args.seen in
    let took = c.take_turn.ensures.took.1 in
    let out = c.take_lane-held.ensures.view in
    let s1 = c.take_turn.new.place in
    let s2 = c.take_lane-held.new.place in
    let below = subst (λ (z : Shape). c.args.lane < z.lanes) (sym c.requires.of.1) c.requires.lane in record {
      sits = (
        c.take_lane-held.ensures.same.0 ∙ c.take_turn.ensures.same.0 ∙ c.requires.of.0,
        held_shape s.seat s1 s2 s.caller s.taken c.args.lane c.take_lane-held.result s.ready took out ∙ c.requires.of.1,
      );
      holds = is_held s.seat s1 s2 s.caller s.taken c.args.lane c.take_lane-held.result s.ready took out c.take_lane-held.ensures.hand below;
    }
