use Rattle.edge_base.proofs.FrontLemmas.{starts_with_added, starts_with_more, starts_with_longer, on_err_from}
use Rattle.trace_form.proofs.output.push_line.Goals as goal

pub returns-in_err-push_further-clause-err : goal.returns-in_err-push_further-clause-err
returns-in_err-push_further-clause-err c =
    on_err_from c.from_residual-in_err-push_further.result (starts_with_longer _ _ _
    (starts_with_more _ _ _ _ (starts_with_more _ _ _ _ (starts_with_added _ _ _ c.in_ok-push_judged.ensures.ok) c.in_ok-push.ensures.ok) c.in_ok-push_counts.ensures.ok)
    c.in_err-push_further.ensures.err)
