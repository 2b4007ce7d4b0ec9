use Rattle.std.proofs.Common.{rules, [], subst}
use Rattle.rate_shared.specs.Hands.{seen_of}
use Rattle.rate_shared.specs.Promise.{Grows}
use Rattle.rate_shared.proofs.Kept.{looks_up}
use Rattle.rate_shared.proofs.SeenLemmas.{looked}
use Rattle.rate_shared.proofs.counters.Counters.catch_up.Goals as goal

pub load-requires : goal.load-requires
load-requires c = (search rules, search rules, looks_up _ _ _ _ c.args.seen.now.ready.shape.lanes.0)

pub invariant_of-seen : goal.invariant_of-seen
invariant_of-seen c =
    let s = c.args.seen.now in
    let r = s.ready in
    let l = looked s.seat.me.0.shape s.caller s.taken c.load.result (seen_of s.seat.me) [] s.seat.me c.load.new.seat r.idle r.shape r.number r.few r.its c.load.ensures.2 in
    record { ready = l.ready }

pub returns-clause-grows : goal.returns-clause-grows
returns-clause-grows c =
    let s = c.args.seen.now in
    let r = s.ready in
    let l = looked s.seat.me.0.shape s.caller s.taken c.load.result (seen_of s.seat.me) [] s.seat.me c.load.new.seat r.idle r.shape r.number r.few r.its c.load.ensures.2 in
    subst (λ z. Grows z s.caller (seen_of s.seat.me) (seen_of c.load.new.seat.me)) c.requires.of.1 l.grows
