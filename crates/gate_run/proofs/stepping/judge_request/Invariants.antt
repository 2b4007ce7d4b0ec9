use Rattle.std.proofs.Common.{◌≡◌, ◌-◌, ◌^◌, length}
use Rattle.std.specs.Arc.{arc_value}
use Rattle.judge_core.specs.Judging.{judge}
use Rattle.judge_core.specs.Stands.{IsTold, MayTell}
use Rattle.rate_shared.specs.Callers.{own_history, shape_of, IsOf, IsSameCaller}
use Rattle.gate_run.specs.Stepping.{StandsAt, IsTalking}
use Rattle.gate_run.proofs.stepping.judge_request.Given as goal

abbrev pub ghost-next : goal.ghost-next
ghost-next g a = g.listed

abbrev pub invariant-turns : goal.invariant-turns
invariant-turns g l = record {
  same : IsSameCaller l.fn.seen l.seen;
  of : IsOf l.counters l.seen;
  told : IsTold g.listed l.judge;
  may : MayTell l.answer l.judge;
  talking :
      IsTalking (judge g.listed (arc_value l.fn.picked.config) l.fn.request) (StandsAt g.listed l.fn.picked l.fn.request) (shape_of l.counters)
      l.fn.seen l.seen l.judge l.answer l.shown.items;
}

-- each turn takes a step of the caller, and there are 2^40 at most
abbrev pub decreases-turns : goal.decreases-turns
decreases-turns g l = 2 ^ 40 - length (own_history l.seen)
