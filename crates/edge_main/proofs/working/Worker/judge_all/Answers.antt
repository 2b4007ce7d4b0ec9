use Rattle.std.proofs.Common.{◌≡◌, List, ◌∷◌, length, ap, subst, ◌∙◌, arith}
use Rattle.std.specs.Vec.Iter.{into_iter_items}
use Rattle.edge_main.specs.declared.working.Job.{Job}
use Rattle.edge_main.proofs.MeetingLemmas.{same-of}
use Rattle.edge_main.proofs.WorkLemmas.{HasDoneSome, does-more, same-worker-then}
use Rattle.edge_main.proofs.working.Worker.judge_all.Goals as goal

pub jobs-preserved : goal.jobs-preserved
jobs-preserved g c =
    let loop = c.jobs in
    let before = c.args.self.now in
    let after = c.judge-judged.new.self in
    let more = into_iter_items c.next.new.self in
    let steps : into_iter_items loop.job-iterator ≡ c.in-Some.job ∷ more = c.in-Some.ensures.steps.0 in
    let some : HasDoneSome before loop.self (c.in-Some.job ∷ more) = subst (HasDoneSome before loop.self) steps loop.invariant.some in
    record {
      of = same-of c.args.gate.now loop.self.pass after.pass c.judge-judged.ensures.same.pass loop.invariant.of;
      same = same-worker-then before loop.self after loop.invariant.same c.judge-judged.ensures.same;
      none = c.judge-judged.ensures.jobs ∙ loop.invariant.none;
      some = does-more before loop.self after c.in-Some.job more loop.invariant.same.pass.caller.0 some c.in_ok-judged.ensures.judges;
      left = (let was = loop.invariant.left in let gone = c.in-Some.ensures.steps.1 in let short = ap length steps in omega arith);
    }
