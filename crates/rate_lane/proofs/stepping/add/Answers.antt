use Rattle.std.proofs.Common.{◌≡◌, true, sym, ap, ◌∙◌, subst, set}
use Rattle.indexmap.specs.IndexMap.{insert_entry}
use Rattle.rate_plain.specs.contracts.key.KeyPartialEq.TheImpl.{eq-value}
use Rattle.rate_lane.specs.KeyState.{StepsKey}
use Rattle.rate_lane.proofs.IndexLemmas.{added_ordered}
use Rattle.rate_lane.proofs.KeyEqLemmas.{inserted-is}
use Rattle.rate_lane.proofs.SteppingLemmas.{from_ok}
use Rattle.rate_lane.proofs.stepping.add.Goals as goal

pub returns-clause-added : goal.returns-clause-added
returns-clause-added c =
    let entries = c.args.index.now.entries in
    let inserted = from_ok c.insert.result (c.insert.new.self.entries ≡ insert_entry eq-value.it entries c.args.fresh.0 c.step-answer.new.self) (sym c.if-is_err.ensures.value) c.insert.ensures.entries in
    record {
      new = c.step-answer.new.self;
      entries = inserted-is entries c.insert.new.self.entries c.args.fresh.0 c.step-answer.new.self inserted c.requires.absent;
      steps = subst (λ state. StepsKey state c.step-answer.new.self c.args.fresh.0 true c.args.at c.step-answer.result) c.requires.dead c.step-answer.ensures.steps;
      places = c.step-answer.ensures.places ∙ ap (λ s. s.moments.capacity) c.requires.dead;
    }

pub returns-clause-ordered : goal.returns-clause-ordered
returns-clause-ordered c =
    let entries = c.args.index.now.entries in
    let inserted = from_ok c.insert.result (c.insert.new.self.entries ≡ insert_entry eq-value.it entries c.args.fresh.0 c.step-answer.new.self) (sym c.if-is_err.ensures.value) c.insert.ensures.entries in
    added_ordered entries c.insert.new.self.entries c.args.order.now c.set.new.self c.args.fresh.0 c.step-answer.new.self c.requires.ordered c.requires.free
    (inserted-is entries c.insert.new.self.entries c.args.fresh.0 c.step-answer.new.self inserted c.requires.absent)
    (c.set.ensures ∙ (λ i. set c.args.order.now (c.len.ensures.len i) (c.live_until.ensures i)))
