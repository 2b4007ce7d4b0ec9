use Rattle.std.proofs.Common.{◌≡◌, ◌<◌, ◌≤◌, length, refl, sym, ap, ◌∙◌, subst, arith}
use Rattle.rate_plain.specs.KeyParts.{KeyParts}
use Rattle.rate_plain.specs.declared.entry.Answer.TheVariants.{Pass, Full}
use Rattle.rate_lane.specs.Index.{state_of, live_at}
use Rattle.rate_lane.specs.Stepping.{places_in, AddsState}
use Rattle.rate_lane.proofs.KeyEqLemmas.{unique-is}
use Rattle.rate_lane.proofs.LaneLemmas.{add_changed, added_steps, full_steps, pass_steps}
use Rattle.rate_lane.proofs.RingLemmas.{rings_kept, rings_set, rings_dead}
use Rattle.rate_lane.proofs.SweptLemmas.{swept_steps}
use Rattle.rate_lane.proofs.stepping.step_dead.Goals as goal

pub returns-then-not-ask-clause-ok : goal.returns-then-not-ask-clause-ok
returns-then-not-ask-clause-ok c =
    let entries = c.args.index.now.entries in
    let swept = c.sweep.new.index.entries in
    let absent = c.sweep.ensures.kept c.args.ask.now.key ∙ c.requires.dead in
    swept_steps entries swept c.args.at c.sweep.ensures.kept swept (length c.args.order.now) c.args.ask.now Pass
    (pass_steps swept swept (length c.args.order.now) c.args.ask.now c.args.at refl absent c.if-not-ask.true)

pub returns-then-len-places-clause-ok : goal.returns-then-len-places-clause-ok
returns-then-len-places-clause-ok c =
    let entries = c.args.index.now.entries in
    let swept = c.sweep-2.new.index.entries in
    let kept : (q : KeyParts) → state_of swept q ≡ live_at c.args.at (state_of entries q) = λ q. c.sweep-2.ensures.kept q ∙ ap (λ es. live_at c.args.at (state_of es q)) c.in_ok-fresh.ensures.same in
    let full : length c.args.order.now ≤ length swept = omega (arith, c.if-len-places.true, c.places.ensures, c.len.ensures.len, c.sweep-2.ensures.places) in
    swept_steps entries swept c.args.at kept swept (length c.args.order.now) c.args.ask.now Full
    (full_steps swept swept (length c.args.order.now) c.args.ask.now c.args.at refl (unique-is swept c.len.ensures.unique) (kept c.args.ask.now.key ∙ c.requires.dead) c.if-not-ask.false full)

pub returns-then-len-places-clause-rings : goal.returns-then-len-places-clause-rings
returns-then-len-places-clause-rings c =
    let entries = c.args.index.now.entries in
    let swept = c.sweep-2.new.index.entries in
    let kept : (q : KeyParts) → state_of swept q ≡ live_at c.args.at (state_of entries q) = λ q. c.sweep-2.ensures.kept q ∙ ap (λ es. live_at c.args.at (state_of es q)) c.in_ok-fresh.ensures.same in
    rings_dead entries swept swept c.args.ask.now c.args.at c.requires.dead kept (rings_kept swept swept refl)

pub returns-clause-ok : goal.returns-clause-ok
returns-clause-ok c =
    let entries = c.args.index.now.entries in
    let swept = c.sweep-2.new.index.entries in
    let kept : (q : KeyParts) → state_of swept q ≡ live_at c.args.at (state_of entries q) = λ q. c.sweep-2.ensures.kept q ∙ ap (λ es. live_at c.args.at (state_of es q)) c.in_ok-fresh.ensures.same in
    let room : length swept < length c.args.order.now = omega (arith, c.if-len-places.false, c.places.ensures, c.len.ensures.len, c.sweep-2.ensures.places) in
    let added = subst (λ key. AddsState swept c.add.new.index.entries key c.args.at c.add.result) (ap (λ f. f.0) c.in_ok-fresh.ensures.ok) c.add.ensures.added in
    swept_steps entries swept c.args.at kept c.add.new.index.entries (length c.args.order.now) c.args.ask.now c.add.result
    (added_steps swept c.add.new.index.entries (length c.args.order.now) c.args.ask.now c.args.at c.add.result c.in_ok-fresh.ensures.some_threshold (unique-is swept c.len.ensures.unique) (kept c.args.ask.now.key ∙ c.requires.dead) c.if-not-ask.false room added)

pub returns-clause-rings : goal.returns-clause-rings
returns-clause-rings c =
    let entries = c.args.index.now.entries in
    let swept = c.sweep-2.new.index.entries in
    let after = c.add.new.index.entries in
    let kept : (q : KeyParts) → state_of swept q ≡ live_at c.args.at (state_of entries q) = λ q. c.sweep-2.ensures.kept q ∙ ap (λ es. live_at c.args.at (state_of es q)) c.in_ok-fresh.ensures.same in
    let absent = kept c.args.ask.now.key ∙ c.requires.dead in
    let added = subst (λ key. AddsState swept after key c.args.at c.add.result) (ap (λ f. f.0) c.in_ok-fresh.ensures.ok) c.add.ensures.added in
    rings_dead entries swept after c.args.ask.now c.args.at c.requires.dead kept
    (rings_set swept after c.args.ask.now.key added.new (add_changed swept after c.args.ask.now.key added.new absent added.entries) (added.places ∙ sym (ap places_in absent)))
