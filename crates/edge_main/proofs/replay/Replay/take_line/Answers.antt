use Rattle.std.proofs.Common.{◌++◌, ap, subst, ◌∙◌}
use Rattle.edge_main.specs.Output.{IsAnswered}
use Rattle.edge_main.specs.Spent.{IsSpentOn}
use Rattle.edge_main.proofs.TalkedLemmas.{same_fault}
use Rattle.edge_main.proofs.replay.Replay.take_line.Goals as goal

pub returns-clause-ok : goal.returns-clause-ok
returns-clause-ok c s at =
    let old = c.args.self.now in
    let (this, is, came) = c.in_ok-answer.ensures.answered s at in
    let is_line = subst (λ given. IsAnswered s given this) c.line.ensures is in
    (this, is_line, came.1, c.in_ok-push.ensures.ok ∙ ap (λ xs. old.pending ++ xs) (c.bytes.ensures ∙ came.0))

pub returns-in_err-answer-clause-spent : goal.returns-in_err-answer-clause-spent
returns-in_err-answer-clause-spent c is s at =
    subst (IsSpentOn s) c.line.ensures (c.in_err-answer.ensures.spent (same_fault c.from_residual.result _ c.from_residual.ensures.1 is) s at)
