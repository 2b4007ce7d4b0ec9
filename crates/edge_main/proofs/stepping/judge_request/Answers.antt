use Rattle.std.proofs.Common.{List, [], ◌∷◌, Some, arith, length-append}
use Rattle.std.specs.Arc.{arc_value}
use Rattle.judge_core.specs.Judging.{judging, judgement}
use Rattle.judge_core.specs.Stands.{StandsFor, judgement_of}
use Rattle.rate_plain.specs.History.{entry_of}
use Rattle.rate_plain.specs.declared.entry.Answer.{Answer}
use Rattle.edge_main.specs.Stepping.{course_of}
use Rattle.edge_main.proofs.TalkedLemmas.{under_opens, under_step, under_full, under_done, same_fault}
use Rattle.edge_main.proofs.stepping.judge_request.Goals as goal

pub turns-init : goal.turns-init
turns-init g c =
    let talk = judging g.listed (arc_value c.args.picked.config) c.args.request in
    let stands : List Answer → Type 0 = λ past. StandsFor g.listed (course_of c.args.picked c.args.request past) c.start-judge.result in
    record {
      told = c.start-judge.ensures.told g.listed c.requires.0;
      may = c.start-judge.ensures.may;
      counting = c.requires.1;
      judging = λ history counts. under_opens talk stands (c.start-judge.ensures.stands g.listed) c.args.shown.now c.args.counter.now history counts;
    }

pub turns-preserved : goal.turns-preserved
turns-preserved g c =
    let picked = c.args.picked in
    let request = c.args.request in
    let talk = judging g.listed (arc_value picked.config) request in
    let before : List Answer → Type 0 = λ past. StandsFor g.listed (course_of picked request past) c.turns.judge in
    let after : List Answer → Type 0 = λ past. StandsFor g.listed (course_of picked request past) c.next.new.self in
    let turn = rw c.in-Count.is at c.in_ok-ask.ensures.turns in
    let took = c.in_ok-take_step-in-Count.ensures.took in
    let first = c.requires.1 in
    let so = c.turns.invariant.judging first.0 first.1 in
    let asks = turn (course_of picked request so.past) so.stands in
    record {
      told = asks.told;
      may = asks.may c.in_ok-take_step-in-Count.field-0;
      counting = (_, (took so.now so.counter_is).counter_is);
      judging = λ history counts.
          let so = c.turns.invariant.judging history counts in
          let asks = turn (course_of picked request so.past) so.stands in
          under_step judgement talk before c.args.shown.now c.turns.answer c.turns.counter c.turns.shown history so c.in-Count.ask asks.asks
          after asks.stands c.take_step.new.counter c.take_step.new.shown c.in_ok-take_step-in-Count.field-0 (took so.now so.counter_is);
    }

pub turns-smaller : goal.turns-smaller
turns-smaller g c =
    let first = c.requires.1 in
    let so = c.turns.invariant.judging first.0 first.1 in
    let took = c.in_ok-take_step-in-Count.ensures.took so.now so.counter_is in
    let grown = length-append so.now (entry_of 64 4096 so.now 0 c.in-Count.ask ∷ []) in
    omega (arith, so.counter_is.steps, took.counter_is.steps, grown, c.take_step.new.counter.within)

pub returns-in-Done-clause-judged : goal.returns-in-Done-clause-judged
returns-in-Done-clause-judged g c history counts =
    let picked = c.args.picked in
    let request = c.args.request in
    let talk = judging g.listed (arc_value picked.config) request in
    let before : List Answer → Type 0 = λ past. StandsFor g.listed (course_of picked request past) c.turns.judge in
    let so = c.turns.invariant.judging history counts in
    let done = (rw c.in-Done.is at c.in_ok-ask.ensures.turns) (course_of picked request so.past) so.stands in
    record {
      talked =
          under_done judgement talk before c.args.shown.now c.turns.answer c.turns.counter c.turns.shown history so (judgement_of c.in-Done.judged)
          done.done;
      config = done.config;
    }

pub returns-in_err-take_step-in-Count-clause-spent : goal.returns-in_err-take_step-in-Count-clause-spent
returns-in_err-take_step-in-Count-clause-spent g c is history counts =
    let picked = c.args.picked in
    let request = c.args.request in
    let talk = judging g.listed (arc_value picked.config) request in
    let before : List Answer → Type 0 = λ past. StandsFor g.listed (course_of picked request past) c.turns.judge in
    let so = c.turns.invariant.judging history counts in
    let asks = (rw c.in-Count.is at c.in_ok-ask.ensures.turns) (course_of picked request so.past) so.stands in
    under_full judgement talk before c.args.shown.now c.turns.answer c.turns.counter c.turns.shown history so c.in-Count.ask asks.asks
    (c.in_err-take_step-in-Count.ensures.spent (same_fault c.from_residual-in_err-take_step-in-Count.result _ c.from_residual-in_err-take_step-in-Count.ensures.1 is) so.now so.counter_is)
