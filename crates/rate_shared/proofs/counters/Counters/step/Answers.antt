use Rattle.std.proofs.Common.{rules}
use Rattle.rate_shared.proofs.SeenLemmas.{counted_ready, refused_ready}
use Rattle.rate_shared.proofs.counters.Counters.step.Goals as goal

pub invariant_of-seen : goal.invariant_of-seen
invariant_of-seen g c =
    let s = c.args.seen.now in
    record { ready = refused_ready s.seat c.step_on.new.place s.caller s.taken s.ready c.step_on.ensures.idle (search rules) }

pub invariant_of-seen-2 : goal.invariant_of-seen-2
invariant_of-seen-2 g c =
    let s = c.args.seen.now in
    record { ready = counted_ready s.seat c.step_on.new.place s.caller s.taken s.ready c.step_on.ensures.idle c.args.ask.now c.in_ok-counted.counted (search rules) c.in_ok-counted.ensures.counted }
