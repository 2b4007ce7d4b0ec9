use Rattle.std.proofs.Common.{rules, refl, sym, ap, ◌∙◌, subst}
use Rattle.rate_shared.specs.Hands.{seen_of, resting}
use Rattle.rate_shared.specs.Promise.{Grows}
use Rattle.rate_shared.proofs.Seats.{prefix_self}
use Rattle.rate_shared.proofs.Kept.{splits_note}
use Rattle.rate_shared.proofs.SeenLemmas.{refused_ready}
use Rattle.rate_shared.proofs.counters.Counters.note.Goals as goal

pub split_seat-seat-requires : goal.split_seat-seat-requires
split_seat-seat-requires c = (search rules, search rules, splits_note _ _ _)

pub invariant_of-seen : goal.invariant_of-seen
invariant_of-seen c =
    let s = c.args.seen.now in
    let same = c.split_seat-seat.ensures.2 in
    let idle = same ∙ s.ready.idle ∙ ap (resting s.seat.me.0.shape s.caller) (sym (ap seen_of same)) in
    record { ready = refused_ready s.seat c.split_seat-seat.new.seat s.caller s.taken s.ready idle (ap seen_of same) }

pub returns-clause-grows : goal.returns-clause-grows
returns-clause-grows c =
    let s = c.args.seen.now in
    let same = c.split_seat-seat.ensures.2 in
    let all = seen_of s.seat.me in
    subst (λ z. Grows z s.caller all (seen_of c.split_seat-seat.new.seat.me)) c.requires.of.1
    (subst (Grows s.seat.me.0.shape s.caller all) (sym (ap seen_of same)) record { seen = prefix_self all; legal = s.ready.legal; by_callers = s.ready.by_callers; own = refl })
