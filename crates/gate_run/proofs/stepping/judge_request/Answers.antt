use Rattle.std.proofs.Common.{◌≡◌, refl, ap, ◌∙◌, subst, arith, length, Err}
use Rattle.std.specs.Arc.{arc_value}
use Rattle.rate_plain.specs.History.{IsLegal, own_of}
use Rattle.rate_plain.specs.declared.fault.StepFault.TheVariants as fault
use Rattle.rate_shared.specs.Callers.{history_of, shape_of}
use Rattle.rate_shared.specs.declared.rule.Shape.{Shape}
use Rattle.judge_core.specs.Judging.{judge}
use Rattle.judge_core.specs.Stands.{judgement_of}
use Rattle.gate_run.specs.Stepping.{TookStep, course_at, StandsAt}
use Rattle.gate_run.proofs.SteppingLemmas.{refused_as, talking_opens, talking_step, came_to, talking_refused, talking_stopped}
use Rattle.gate_run.proofs.WentLemmas.{own_grown}
use Rattle.gate_run.proofs.stepping.judge_request.Goals as goal

pub turns-init : goal.turns-init
turns-init g c =
    let (lives, (of, (meaning, nothing))) = c.requires in
    let seen = c.args.seen.now in
    let legal = subst (λ (z : Shape). IsLegal z.lanes z.cap (history_of seen)) of.1 seen.ready.legal in
    record {
      same = (refl, refl, refl);
      of = of;
      told = c.start-judge.ensures.told g.listed (record { told = meaning.told });
      may = c.start-judge.ensures.may;
      talking =
          talking_opens (judge g.listed (arc_value c.args.picked.config) c.args.request) (StandsAt g.listed c.args.picked c.args.request) (shape_of c.args.counters.now) seen
          c.start-judge.result c.args.shown.now.items nothing (c.start-judge.ensures.stands g.listed) legal;
    }

pub turns-preserved : goal.turns-preserved
turns-preserved g c =
    let l = c.turns in
    let so = l.invariant.talking in
    let told = c.in_ok-take_step-in-Count.field-0 in
    let ask = c.in-Count.ask in
    let after = c.take_step.new.seen in
    let shown = c.take_step.new.shown.items in
    let shape = shape_of c.args.counters.now in
    let asks = (rw c.in-Count.is at c.in_ok-ask.ensures.turns) (course_at c.args.picked c.args.request so.under.past) so.under.stands in
    let same = c.take_step.ensures.same in
    let took = subst (λ k. TookStep shape k (history_of l.seen) (history_of after) ask l.shown.items shown told) l.invariant.same.0 c.in_ok-take_step-in-Count.ensures.took in
    record {
      same = (same.0 ∙ l.invariant.same.0, same.1 ∙ l.invariant.same.1, same.2 ∙ l.invariant.same.2);
      of = (same.1 ∙ l.invariant.of.0, same.2 ∙ l.invariant.of.1);
      told = asks.told;
      may = asks.may told;
      talking =
          talking_step (judge g.listed (arc_value c.args.picked.config) c.args.request) (StandsAt g.listed c.args.picked c.args.request) shape c.args.seen.now l.seen
          l.judge l.answer l.shown.items so after c.next.new.self ask shown told asks.asks asks.stands took;
    }

pub turns-smaller : goal.turns-smaller
turns-smaller g c =
    let l = c.turns in
    let seen = c.take_step.new.seen in
    let took = c.in_ok-take_step-in-Count.ensures.took in
    let grown = own_grown (shape_of c.args.counters.now) l.seen.caller (history_of l.seen) (history_of seen) c.in-Count.ask took.counted took.counts in
    let own = ap (λ k. length (own_of (history_of seen) k)) c.take_step.ensures.same.0 in
    omega (arith, grown, own, seen.ready.its, seen.ready.few)

pub returns-in-Done-clause-judged : goal.returns-in-Done-clause-judged
returns-in-Done-clause-judged g c =
    let (lives, (of, (meaning, nothing))) = c.requires in
    let l = c.turns in
    let so = l.invariant.talking in
    let done = (rw c.in-Done.is at c.in_ok-ask.ensures.turns) (course_at c.args.picked c.args.request so.under.past) so.under.stands in
    let went = came_to (judge g.listed (arc_value c.args.picked.config) c.args.request) (StandsAt g.listed c.args.picked c.args.request) (shape_of c.args.counters.now) c.args.seen.now l.seen l.judge l.answer l.shown.items so in
    record {
      new = so.new;
      grew = so.seen;
      listed = g.listed;
      meaning = meaning;
      went = went (judgement_of c.in-Done.judged) done.done;
      version = done.version;
      its_config = done.config;
      shows = so.shows;
    }

-- the turn was refused memory
pub returns-in_err-ask-clause-judged : goal.returns-in_err-ask-clause-judged
returns-in_err-ask-clause-judged g c =
    let (lives, (of, (meaning, nothing))) = c.requires in
    let l = c.turns in
    refused_as c.from_residual.result fault.Memory _ _ c.from_residual.ensures.1 (record {
      listed = g.listed;
      meaning = meaning;
      stopped =
          talking_refused (judge g.listed (arc_value c.args.picked.config) c.args.request) (StandsAt g.listed c.args.picked c.args.request) (shape_of c.args.counters.now) c.args.seen.now l.seen l.judge
          l.answer l.shown.items l.invariant.talking;
    })

-- the step was refused
pub returns-in_err-take_step-in-Count-clause-judged : goal.returns-in_err-take_step-in-Count-clause-judged
returns-in_err-take_step-in-Count-clause-judged g c =
    let (lives, (of, (meaning, nothing))) = c.requires in
    let l = c.turns in
    let so = l.invariant.talking in
    let asks = (rw c.in-Count.is at c.in_ok-ask.ensures.turns) (course_at c.args.picked c.args.request so.under.past) so.under.stands in
    let refused = c.in_err-take_step-in-Count.ensures in
    refused_as c.from_residual-in_err-take_step-in-Count.result _ _ _ c.from_residual-in_err-take_step-in-Count.ensures.1 (record {
      listed = g.listed;
      meaning = meaning;
      stopped =
          talking_stopped (judge g.listed (arc_value c.args.picked.config) c.args.request) (StandsAt g.listed c.args.picked c.args.request) (shape_of c.args.counters.now) c.args.seen.now l.seen l.judge
          l.answer l.shown.items so c.take_step.new.seen c.in-Count.ask _ refused.took c.take_step.ensures.same.0
          (λ spent. refused.spent (ap Err spent)) asks.asks;
    })

pub returns-in_err-take_step-in-Count-clause-same : goal.returns-in_err-take_step-in-Count-clause-same
returns-in_err-take_step-in-Count-clause-same g c =
    let same = c.take_step.ensures.same in
    let earlier = c.turns.invariant.same in
    (same.0 ∙ earlier.0, same.1 ∙ earlier.1, same.2 ∙ earlier.2)

pub returns-in_err-ask-clause-same : goal.returns-in_err-ask-clause-same
returns-in_err-ask-clause-same g c = c.turns.invariant.same

pub returns-in-Done-clause-same : goal.returns-in-Done-clause-same
returns-in-Done-clause-same g c = c.turns.invariant.same

pub next-requires : goal.next-requires
next-requires g c = (c.turns.invariant.told, c.turns.invariant.may)
