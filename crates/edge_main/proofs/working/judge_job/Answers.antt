use Rattle.std.proofs.Common.{refl, subst, ◌∙◌}
use Rattle.edge_main.specs.Working.{FollowsIn}
use Rattle.edge_main.proofs.WorkLemmas.{job-done}
use Rattle.edge_main.proofs.CrewLemmas.{crew-batch}
use Rattle.edge_main.proofs.working.judge_job.Goals as goal

pub returns-clause-judges : goal.returns-clause-judges
returns-clause-judges g c =
    let judged = c.in_ok-answered.answered.judged in
    let counts = c.in_ok-answered.answered.counts in
    let followed = c.in_ok-verdict.field-0 in
    job-done _ c.args.pass.now.seen c.request_in.new.pass.seen c.follow.new.pass.seen c.args.job judged counts c.follow.new.counts followed _
    c.in_ok-answered.ensures.answered c.request_in.ensures.same.caller.0
    (subst (λ used. FollowsIn c.request_in.new.pass.seen c.follow.new.pass.seen judged used counts c.follow.new.counts followed)
    c.reply_used-used.ensures c.in_ok-verdict.ensures.follows) refl refl refl refl (c.in_ok-came.ensures ∙ c.as_slice.ensures) refl refl
