use Rattle.std.proofs.Common.{◌≡◌, ◌-◌, ◌^◌}
use Rattle.judge_core.specs.Backing.{IsToldBack, MayTellBack}
use Rattle.edge_main.specs.Stepping.{IsCounting, WhereCounts, IsBackingSo}
use Rattle.edge_main.proofs.stepping.judge_reply.Given as goal

abbrev pub ghost-next : goal.ghost-next
ghost-next g a = g.listed

-- wherever the counter stood at first, the judging stands after the steps since then
abbrev pub invariant-turns : goal.invariant-turns
invariant-turns g l = record {
  told : IsToldBack g.listed l.back;
  may : MayTellBack l.answer l.back;
  counting : IsCounting l.counter;
  backing : WhereCounts l.fn.counter (IsBackingSo g.listed l.fn.judged l.fn.reply l.fn.at l.fn.shown l.back l.answer l.counter l.shown);
}

-- each turn takes a step, and there are 2^50 at most
abbrev pub decreases-turns : goal.decreases-turns
decreases-turns g l = 2 ^ 50 - l.counter.steps
