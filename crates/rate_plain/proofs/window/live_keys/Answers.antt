use Rattle.std.proofs.Common.{◌≡◌, ◌+◌, ◌∷◌, drop, sym, ap, ◌∙◌, arith}
use Rattle.std.proofs.lemmas.List.{drop_more, drop_all, take_rest}
use Rattle.rate_plain.specs.LiveSteps.{made_live_count}
use Rattle.rate_plain.proofs.LiveLemmas.{made_live_count_is, made_live_count_cons}
use Rattle.rate_plain.proofs.window.live_keys.Goals as goal

pub loop-place-preserved : goal.loop-place-preserved
loop-place-preserved c =
    let entries = c.args.entries.now in
    let i = c.loop-place.place in
    let entry = c.index-entries-place.result in
    let split : drop i entries ≡ entry ∷ drop (i + 1) entries = drop_more entries i entry c.loop-place-test.true ∙ ap (λ e. e ∷ drop (i + 1) entries) (sym c.index-entries-place.is) in
    let step = ap (made_live_count c.args.lanes c.args.lane c.args.at) split ∙ made_live_count_cons c.args.lanes c.args.lane c.args.at entry (drop (i + 1) entries) in
    let rest = take_rest entries (i + 1) in
    grind (arith, step, rest)

-- after the last entry there is none to count
pub returns : goal.returns
returns c =
    let count = made_live_count c.args.lanes c.args.lane c.args.at in
    let none : count (drop c.loop-place.place c.args.entries.now) ≡ 0 = ap count (drop_all c.loop-place.place c.args.entries.now c.loop-place-test.false) in
    let all : c.loop-place.live ≡ count c.args.entries.now = omega (arith, none, c.loop-place.invariant.is_count) in
    all ∙ made_live_count_is c.args.lanes c.args.lane c.args.at c.args.entries.now
