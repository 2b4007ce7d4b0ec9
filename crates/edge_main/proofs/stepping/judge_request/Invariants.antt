use Rattle.std.proofs.Common.{◌≡◌, ◌-◌, ◌^◌}
use Rattle.judge_core.specs.Stands.{IsTold, MayTell}
use Rattle.edge_main.specs.Stepping.{IsCounting, WhereCounts, IsJudgingSo}
use Rattle.edge_main.proofs.stepping.judge_request.Given as goal

abbrev pub ghost-next : goal.ghost-next
ghost-next g a = g.listed

-- wherever the counter stood at first, the judging stands after the steps since then
abbrev pub invariant-turns : goal.invariant-turns
invariant-turns g l = record {
  told : IsTold g.listed l.judge;
  may : MayTell l.answer l.judge;
  counting : IsCounting l.counter;
  judging : WhereCounts l.fn.counter (IsJudgingSo g.listed l.fn.picked l.fn.request l.fn.shown l.judge l.answer l.counter l.shown);
}

-- each turn takes a step, and there are 2^50 at most
abbrev pub decreases-turns : goal.decreases-turns
decreases-turns g l = 2 ^ 50 - l.counter.steps
