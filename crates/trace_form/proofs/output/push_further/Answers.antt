use Rattle.std.proofs.lemmas.Result.{on_err_weaker}
use Rattle.edge_base.proofs.FrontLemmas.{starts_with_added, starts_with_more, starts_with_longer, on_err_from}
use Rattle.trace_form.proofs.output.push_further.Goals as goal

pub returns-in_err-push_request-clause-err : goal.returns-in_err-push_request-clause-err
returns-in_err-push_request-clause-err c =
    on_err_from c.from_residual-in_err-push_request.result (starts_with_longer _ _ _
    (starts_with_more _ _ _ _ (starts_with_added _ _ _ c.in_ok-push_noted.ensures.ok) c.in_ok-push_location.ensures.ok)
    c.in_err-push_request.ensures.err)

pub returns-clause-err : goal.returns-clause-err
returns-clause-err c = on_err_weaker c.push_reply.result (starts_with_longer _ _ _
    (starts_with_more _ _ _ _ (starts_with_more _ _ _ _ (starts_with_added _ _ _ c.in_ok-push_noted.ensures.ok) c.in_ok-push_location.ensures.ok) c.in_ok-push_request.ensures.ok))
    c.push_reply.ensures.err
