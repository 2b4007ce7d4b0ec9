use Rattle.std.proofs.Common.{length, sym, subst, true≢false}
use Rattle.rate_lane.specs.Index.{KeepsAll}
use Rattle.rate_lane.proofs.SteppingLemmas.{on_fault}
use Rattle.rate_lane.proofs.LaneStepLemmas.{stands_after, spares}
use Rattle.rate_lane.proofs.lane.Lane.step.Goals as goal

pub returns-clause-steps : goal.returns-clause-steps
returns-clause-steps c history stands =
    let after = stands_after c.args.self.now.moment c.later-at.result c.args.self.now.index.entries c.take_step.new.index.entries (length c.args.self.now.order) history c.args.ask.now c.in_ok-answer.answer stands.moment stands.keeps c.later-at.ensures c.in_ok-answer.ensures.ok in
    (after.0, λ caller. record { moment = (after.1 caller).0; keeps = (after.1 caller).1 })

-- nothing was moved
pub returns-in_err-answer-clause-steps : goal.returns-in_err-answer-clause-steps
returns-in_err-answer-clause-steps c history stands =
    on_fault c.from_residual.result _ _ c.from_residual.ensures.0 (record {
      moment = stands.moment;
      keeps = subst (λ es. KeepsAll es c.args.self.now.moment history) (sym c.in_err-answer.ensures.err.0) stands.keeps;
    })

pub returns-in_err-answer-clause-no_memory : goal.returns-in_err-answer-clause-no_memory
returns-in_err-answer-clause-no_memory c history stands when =
    let few = spares c.args.self.now.moment c.later-at.result c.args.self.now.index.entries history c.args.ask.now stands.moment stands.keeps c.later-at.ensures when in
    absurd (true≢false (sym (c.in_err-answer.ensures.no_memory few)))
