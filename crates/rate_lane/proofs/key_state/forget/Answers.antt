use Rattle.std.proofs.Common.{◌∙◌, length, sym, ap, subst, arith}
use Rattle.std.proofs.lemmas.List.{length-drop}
use Rattle.rate_lane.specs.KeyState.{counted_among, Ascends}
use Rattle.rate_lane.proofs.KeyStateLemmas.{forgets_one, forgets_none, ascends_drop}
use Rattle.rate_lane.proofs.key_state.forget.Goals as goal

pub loop-at-preserved : goal.loop-at-preserved
loop-at-preserved c =
    let before = c.loop-at.invariant in
    let period = c.args.key.now.period in
    let over = sym c.is_oldest_over.ensures ∙ c.loop-at-test.true in
    let items = ap (λ b. b.items) c.pop_front.ensures.items in
    record {
      counted = λ later h. ap (counted_among period later) items ∙ forgets_one period c.args.at c.loop-at.moments.items over later h ∙ before.counted later h;
      ascends = λ to a. subst (λ ms. Ascends 0 ms to) (sym items) (ascends_drop c.loop-at.moments.items to (before.ascends to a));
      fewer = omega (arith, before.fewer, ap length items, length-drop 1 c.loop-at.moments.items);
      places = ap (λ b. b.capacity) c.pop_front.ensures.items ∙ before.places;
    }

-- the oldest that is left counts, so all do
pub returns-clause-forgets : goal.returns-clause-forgets
returns-clause-forgets c =
    let first = sym c.is_oldest_over.ensures ∙ c.loop-at-test.false in
    record {
      counted = c.loop-at.invariant.counted;
      ascends = c.loop-at.invariant.ascends;
      all_count = λ to a. forgets_none c.args.key.now.period c.args.at c.loop-at.moments.items first to (c.loop-at.invariant.ascends to a);
      fewer = c.loop-at.invariant.fewer;
    }
