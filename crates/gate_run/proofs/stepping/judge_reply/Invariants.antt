use Rattle.std.proofs.Common.{◌≡◌, ◌-◌, ◌^◌, length}
use Rattle.std.specs.Arc.{arc_value}
use Rattle.judge_core.specs.Judging.{judge_reply}
use Rattle.judge_core.specs.Backing.{IsToldBack, MayTellBack}
use Rattle.judge_core.specs.Stands.{judgement_of}
use Rattle.rate_shared.specs.Callers.{own_history, shape_of, IsOf, IsSameCaller}
use Rattle.gate_run.specs.Stepping.{StandsBackAt, IsTalking}
use Rattle.gate_run.proofs.stepping.judge_reply.Given as goal

abbrev pub ghost-next : goal.ghost-next
ghost-next g a = g.listed

abbrev pub invariant-turns : goal.invariant-turns
invariant-turns g l = record {
  same : IsSameCaller l.fn.seen l.seen;
  of : IsOf l.counters l.seen;
  told : IsToldBack g.listed l.back;
  may : MayTellBack l.answer l.back;
  talking :
      IsTalking (judge_reply g.listed (arc_value l.fn.judged.config) (judgement_of l.fn.judged) l.fn.reply l.fn.at)
      (StandsBackAt g.listed l.fn.judged l.fn.reply l.fn.at) (shape_of l.counters) l.fn.seen l.seen l.back l.answer l.shown.items;
}

-- each turn takes a step of the caller, and there are 2^40 at most
abbrev pub decreases-turns : goal.decreases-turns
decreases-turns g l = 2 ^ 40 - length (own_history l.seen)
