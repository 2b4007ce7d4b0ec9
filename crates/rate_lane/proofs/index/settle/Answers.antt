use Rattle.std.proofs.Common.{◌≡◌, ◌+◌, ◌-◌, ◌^◌, ◌<◌, ◌≤◌, length, set, slice_index_or, None, sym, ap, ◌∙◌, subst₂, arith}
use Rattle.std.specs.List.{swap_remove}
use Rattle.std.proofs.lemmas.Option.{get_or_from_slice_get}
use Rattle.indexmap.specs.IndexMap.{Updates}
use Rattle.rate_plain.specs.contracts.key.KeyPartialEq.TheImpl.{eq-value}
use Rattle.rate_lane.specs.Index.{IsOrdered, low_count}
use Rattle.rate_lane.proofs.IndexLemmas.{value_at, is_taken, taken_out, moved, moved_ordered, moved_fewer, taken_live}
use Rattle.rate_lane.proofs.KeyEqLemmas.{updates-is, unique-is}
use Rattle.rate_lane.proofs.index.settle.Goals as goal

taken : (c : goal.Joined-swap_remove_index) → c.args.place < length c.args.index.now.entries
taken c = is_taken c.args.index.now.entries c.args.order.now c.args.place c.args.at c.requires.ordered c.requires.low.0 c.requires.low.1 (omega (arith, c.get.ensures.number, c.get.ensures.within))

-- the last number has taken the place's
order_is : (c : goal.Joined-swap_remove_index) → c.set-else-get-until-2.new.self ≡ moved c.args.index.now.entries c.args.order.now c.args.place (2 ^ 64 - 1) c.requires.ordered (taken c)
order_is c =
    c.set-else-get-until-2.ensures
    ∙ (λ i. set (c.set-else-get-until.ensures i) (c.len-last.ensures.len i - 1) (2 ^ 64 - 1))
    ∙ (λ i. set (set c.args.order.now c.args.place (c.number-moved.ensures i)) (length c.args.index.now.entries - 1) (2 ^ 64 - 1))
    ∙ (λ i. set (set c.args.order.now c.args.place (slice_index_or c.args.order.now (c.len-last.ensures.len i - 1) 0)) (length c.args.index.now.entries - 1) (2 ^ 64 - 1))

pub returns-else-get-until-clause-ordered : goal.returns-else-get-until-clause-ordered
returns-else-get-until-clause-ordered c =
    let entries = c.args.index.now.entries in
    let out = taken_out entries c.args.place (λ p. c.swap_remove_index.new.self.entries ≡ swap_remove entries c.args.place p) c.swap_remove_index.result c.swap_remove_index.ensures.entry c.swap_remove_index.ensures.entries (taken c) in
    subst₂ IsOrdered (λ _. c.swap_remove_index.new.self.entries) (sym (order_is c))
    (moved_ordered entries c.args.order.now c.args.place (2 ^ 64 - 1) c.requires.ordered (taken c) c.swap_remove_index.new.self.entries out.0 (omega arith) out.2)

pub returns-else-get-until-clause-live : goal.returns-else-get-until-clause-live
returns-else-get-until-clause-live c =
    let entries = c.args.index.now.entries in
    let out = taken_out entries c.args.place (λ p. Updates eq-value.it c.args.index.now c.swap_remove_index.new.self p.0 None) c.swap_remove_index.result c.swap_remove_index.ensures.entry c.swap_remove_index.ensures.updates (taken c) in
    let own = sym (ap (λ p. p.1) (get_or_from_slice_get entries c.args.place out.0 out.0 out.1)) ∙ value_at entries c.args.place c.index.result.now out.0 c.index.ensures (taken c) in
    let dead : out.0.1.live_until ≤ c.args.at = omega (arith, ap (λ s. s.live_until) own, c.live_until-until.ensures, c.if-get-until.false, c.get.ensures.number) in
    taken_live entries c.swap_remove_index.new.self.entries c.args.place c.args.at out.0 (unique-is entries c.len-last.ensures.unique) (taken c) out.1 dead (updates-is entries c.swap_remove_index.new.self.entries out.0.0 None out.2.0)

pub returns-else-get-until-clause-fewer : goal.returns-else-get-until-clause-fewer
returns-else-get-until-clause-fewer c =
    ap (λ order. low_count c.args.at order + 1) (order_is c)
    ∙ moved_fewer c.args.index.now.entries c.args.order.now c.args.place (2 ^ 64 - 1) c.requires.ordered (taken c) c.args.at c.requires.low.1 (omega (arith, c.get.ensures.number, c.get.ensures.within))
