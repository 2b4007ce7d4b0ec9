use Rattle.std.proofs.Common.{◌++◌, refl, ap, ◌∙◌}
use Rattle.trace_form.specs.declared.refusal.BadCause.TheVariants as cause
use Rattle.edge_main.specs.Answered.{refused}
use Rattle.edge_main.specs.Output as answered
use Rattle.edge_main.proofs.RunLemmas.{OnOk-said, long-no_item}
use Rattle.edge_main.proofs.replay.Replay.take_long.Goals as goal

pub returns-clause-ok : goal.returns-clause-ok
returns-clause-ok c =
    let old = c.args.self.now in
    OnOk-said c.push.result _ _
    (λ pushed given long s at.
    let came = c.in_ok-refuse.ensures.came s at in (
      refused s cause.LongLine,
      answered.bad cause.LongLine (long-no_item given long) refl,
      came.1,
      pushed ∙ ap (λ xs. old.pending ++ xs) (c.bytes.ensures ∙ came.0),
    ))
    c.push.ensures.ok

pub returns-clause-refused : goal.returns-clause-refused
returns-clause-refused c = OnOk-said c.push.result _ _ (λ pushed s at. (c.in_ok-refuse.ensures.came s at).1) c.push.ensures.ok
