use Rattle.std.proofs.lemmas.Result.{on_err_weaker}
use Rattle.edge_base.proofs.FrontLemmas.{starts_with_added, starts_with_more, starts_with_longer, on_err_from}
use Rattle.trace_form.proofs.output.push_judged.Goals as goal

pub returns-in_err-push_ending-clause-err : goal.returns-in_err-push_ending-clause-err
returns-in_err-push_ending-clause-err c =
    on_err_from c.from_residual-in_err-push_ending.result (starts_with_longer _ _ _
    (starts_with_more _ _ _ _ (starts_with_more _ _ _ _ (starts_with_more _ _ _ _ (starts_with_more _ _ _ _ (starts_with_more _ _ _ _ (starts_with_added _ _ _
    c.in_ok-push_number.ensures.ok) c.in_ok-push.ensures.ok) c.in_ok-push_number-2.ensures.ok) c.in_ok-push-2.ensures.ok) c.in_ok-push_kind.ensures.ok) c.in_ok-push-3.ensures.ok)
    c.in_err-push_ending.ensures.err)

pub returns-clause-err : goal.returns-clause-err
returns-clause-err c = on_err_weaker c.push_escaped.result (starts_with_longer _ _ _
    (starts_with_more _ _ _ _ (starts_with_more _ _ _ _ (starts_with_more _ _ _ _ (starts_with_more _ _ _ _ (starts_with_more _ _ _ _ (starts_with_more _ _ _ _ (starts_with_more _ _ _ _ (starts_with_added _ _ _
    c.in_ok-push_number.ensures.ok) c.in_ok-push.ensures.ok) c.in_ok-push_number-2.ensures.ok) c.in_ok-push-2.ensures.ok) c.in_ok-push_kind.ensures.ok) c.in_ok-push-3.ensures.ok)
    c.in_ok-push_ending.ensures.ok) c.in_ok-push-4.ensures.ok)) c.push_escaped.ensures.err
