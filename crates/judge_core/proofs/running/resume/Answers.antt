use Rattle.std.proofs.Common.{◌∙◌}
use Rattle.std.proofs.lemmas.Result.{IfOk-weaker}
use Rattle.judge_core.proofs.running.resume.Goals as goal

pub returns-in-Moved : goal.returns-in-Moved
returns-in-Moved g c =
    IfOk-weaker c.run.result _ _ (λ r ran. (rw c.in-Moved.is at c.in_ok-next.ensures) ∙ ran) c.run.ensures
