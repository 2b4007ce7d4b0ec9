use Rattle.std.proofs.Common.{rules, ◌≡◌, ◌<◌, [], ◌∷◌, sym, ap, ◌∙◌, subst}
use Rattle.std.proofs.lemmas.List.Elements.{All-head}
use Rattle.rate_shared.specs.Steps.{Sat, Shows, met}
use Rattle.rate_shared.specs.Hands.{seen_of}
use Rattle.rate_shared.specs.Promise.{Grows}
use Rattle.rate_shared.proofs.Kept.{joins_seats, looks_up}
use Rattle.rate_shared.proofs.SeenLemmas.{keeping, looked}
use Rattle.rate_shared.proofs.counters.Counters.meet.Goals as goal

pub join_seat-requires : goal.join_seat-requires
join_seat-requires c = (search rules, search rules, ap (λ (m : Sat). m.1) c.args.note.bare.idle, search rules, joins_seats _ _ _ _ _)

pub load-requires : goal.load-requires
load-requires c =
    let s = c.args.seen.now in
    let some_lane : 0 < c.join_seat.new.seat.me.0.shape.lanes = subst (λ n. 0 < n) (sym (ap (λ (m : Sat). m.0.shape.lanes) c.join_seat.ensures.2)) s.ready.shape.lanes.0 in
    (search rules, search rules, looks_up _ _ _ _ some_lane)

pub invariant_of-seen : goal.invariant_of-seen
invariant_of-seen c =
    let s = c.args.seen.now in
    let r = s.ready in
    let w = c.args.note.seat.me.0 in
    let mid : c.join_seat.new.seat.me ≡ keeping s.seat.me.0.shape s.caller (seen_of s.seat.me) (w.known ∷ []) = c.join_seat.ensures.2 ∙ ap (λ (m : Sat). let m' : Sat = (met m.0 w, m.1) in m') r.idle in
    let l = looked s.seat.me.0.shape s.caller s.taken c.load.result (seen_of s.seat.me) (w.known ∷ []) c.join_seat.new.seat.me c.load.new.seat mid r.shape r.number r.few r.its c.load.ensures.2 in
    record { ready = l.ready }

pub returns-clause-grows : goal.returns-clause-grows
returns-clause-grows c =
    let s = c.args.seen.now in
    let r = s.ready in
    let w = c.args.note.seat.me.0 in
    let mid : c.join_seat.new.seat.me ≡ keeping s.seat.me.0.shape s.caller (seen_of s.seat.me) (w.known ∷ []) = c.join_seat.ensures.2 ∙ ap (λ (m : Sat). let m' : Sat = (met m.0 w, m.1) in m') r.idle in
    let l = looked s.seat.me.0.shape s.caller s.taken c.load.result (seen_of s.seat.me) (w.known ∷ []) c.join_seat.new.seat.me c.load.new.seat mid r.shape r.number r.few r.its c.load.ensures.2 in
    subst (λ z. Grows z s.caller (seen_of s.seat.me) (seen_of c.load.new.seat.me)) c.requires.of.1 l.grows

pub returns-clause-note : goal.returns-clause-note
returns-clause-note c =
    let s = c.args.seen.now in
    let r = s.ready in
    let w = c.args.note.seat.me.0 in
    let mid : c.join_seat.new.seat.me ≡ keeping s.seat.me.0.shape s.caller (seen_of s.seat.me) (w.known ∷ []) = c.join_seat.ensures.2 ∙ ap (λ (m : Sat). let m' : Sat = (met m.0 w, m.1) in m') r.idle in
    let l = looked s.seat.me.0.shape s.caller s.taken c.load.result (seen_of s.seat.me) (w.known ∷ []) c.join_seat.new.seat.me c.load.new.seat mid r.shape r.number r.few r.its c.load.ensures.2 in
    (All-head (Shows s.seat.me.0.shape (seen_of c.load.new.seat.me)) w.known [] l.kept).seen
