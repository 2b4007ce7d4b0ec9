use Rattle.rate_shared.proofs.SeenLemmas.{back_out, released_ready}
use Rattle.rate_shared.proofs.counters.Counters.release.Goals as goal

pub give_turn-requires-clause-out : goal.give_turn-requires-clause-out
give_turn-requires-clause-out c =
    let h = c.args.held in
    back_out h.seat c.put_lane.new.place c.put_lane.new.place h.caller h.taken h.number h.lane c.requires.of.holds c.put_lane.ensures.back

pub invariant_of-result : goal.invariant_of-result
invariant_of-result c =
    let h = c.args.held in
    record { ready = released_ready h.seat c.put_lane.new.place c.give_turn.new.place h.caller h.taken h.number h.lane c.requires.of.holds c.put_lane.ensures.back c.give_turn.ensures.gave }
