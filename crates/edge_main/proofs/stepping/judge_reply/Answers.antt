use Rattle.std.proofs.Common.{List, [], ◌∷◌, Option, Some, arith, length-append}
use Rattle.std.specs.Arc.{arc_value}
use Rattle.edge_base.specs.declared.message.Reply.{Reply}
use Rattle.judge_core.specs.Backing.{StandsForBack}
use Rattle.judge_core.specs.Carried.{End}
use Rattle.judge_core.specs.Judging.{carried_at}
use Rattle.rate_plain.specs.History.{entry_of}
use Rattle.rate_plain.specs.declared.entry.Answer.{Answer}
use Rattle.edge_main.specs.Stepping.{back_course_of, reply_talk}
use Rattle.edge_main.proofs.TalkedLemmas.{under_opens, under_step, under_full, under_done, same_fault}
use Rattle.edge_main.proofs.stepping.judge_reply.Goals as goal

pub turns-init : goal.turns-init
turns-init g c =
    let talk = reply_talk g.listed c.args.judged c.args.reply c.args.at in
    let stands : List Answer → Type 0 = λ past. StandsForBack g.listed (back_course_of c.args.judged c.args.reply c.args.at past) c.start-back.result in
    record {
      told = c.start-back.ensures.told g.listed c.requires.0;
      may = c.start-back.ensures.may;
      counting = c.requires.1;
      backing = λ history counts. under_opens talk stands (c.start-back.ensures.stands g.listed) c.args.shown.now c.args.counter.now history counts;
    }

pub turns-preserved : goal.turns-preserved
turns-preserved g c =
    let seen : End → Option Reply = λ end. (carried_at end).reply in
    let talk = reply_talk g.listed c.args.judged c.args.reply c.args.at in
    let before : List Answer → Type 0 = λ past. StandsForBack g.listed (back_course_of c.args.judged c.args.reply c.args.at past) c.turns.back in
    let after : List Answer → Type 0 = λ past. StandsForBack g.listed (back_course_of c.args.judged c.args.reply c.args.at past) c.next.new.self in
    let turn = rw c.in-Count.is at c.in_ok-ask.ensures.turns in
    let took = c.in_ok-take_step-in-Count.ensures.took in
    let first = c.requires.1 in
    let so = c.turns.invariant.backing first.0 first.1 in
    let asks = turn (back_course_of c.args.judged c.args.reply c.args.at so.past) so.stands in
    record {
      told = asks.told;
      may = asks.may c.in_ok-take_step-in-Count.field-0;
      counting = (_, (took so.now so.counter_is).counter_is);
      backing = λ history counts.
          let so = c.turns.invariant.backing history counts in
          let asks = turn (back_course_of c.args.judged c.args.reply c.args.at so.past) so.stands in
          under_step seen talk before c.args.shown.now c.turns.answer c.turns.counter c.turns.shown history so c.in-Count.ask asks.asks
          after asks.stands c.take_step.new.counter c.take_step.new.shown c.in_ok-take_step-in-Count.field-0 (took so.now so.counter_is);
    }

pub turns-smaller : goal.turns-smaller
turns-smaller g c =
    let first = c.requires.1 in
    let so = c.turns.invariant.backing first.0 first.1 in
    let took = c.in_ok-take_step-in-Count.ensures.took so.now so.counter_is in
    let grown = length-append so.now (entry_of 64 4096 so.now 0 c.in-Count.ask ∷ []) in
    omega (arith, so.counter_is.steps, took.counter_is.steps, grown, c.take_step.new.counter.within)

pub returns-in-Done-clause-backed : goal.returns-in-Done-clause-backed
returns-in-Done-clause-backed g c history counts =
    let seen : End → Option Reply = λ end. (carried_at end).reply in
    let talk = reply_talk g.listed c.args.judged c.args.reply c.args.at in
    let before : List Answer → Type 0 = λ past. StandsForBack g.listed (back_course_of c.args.judged c.args.reply c.args.at past) c.turns.back in
    let so = c.turns.invariant.backing history counts in
    let done = (rw c.in-Done.is at c.in_ok-ask.ensures.turns) (back_course_of c.args.judged c.args.reply c.args.at so.past) so.stands in
    under_done seen talk before c.args.shown.now c.turns.answer c.turns.counter c.turns.shown history so (Some c.in-Done.backed) done

pub returns-in_err-take_step-in-Count-clause-spent : goal.returns-in_err-take_step-in-Count-clause-spent
returns-in_err-take_step-in-Count-clause-spent g c is history counts =
    let seen : End → Option Reply = λ end. (carried_at end).reply in
    let talk = reply_talk g.listed c.args.judged c.args.reply c.args.at in
    let before : List Answer → Type 0 = λ past. StandsForBack g.listed (back_course_of c.args.judged c.args.reply c.args.at past) c.turns.back in
    let so = c.turns.invariant.backing history counts in
    let asks = (rw c.in-Count.is at c.in_ok-ask.ensures.turns) (back_course_of c.args.judged c.args.reply c.args.at so.past) so.stands in
    under_full seen talk before c.args.shown.now c.turns.answer c.turns.counter c.turns.shown history so c.in-Count.ask asks.asks
    (c.in_err-take_step-in-Count.ensures.spent (same_fault c.from_residual-in_err-take_step-in-Count.result _ c.from_residual-in_err-take_step-in-Count.ensures.1 is) so.now so.counter_is)
