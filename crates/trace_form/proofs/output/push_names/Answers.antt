use Rattle.std.proofs.Common.{subst, sym}
use Rattle.std.specs.Io.{StartsWith}
use Rattle.edge_base.proofs.FrontLemmas.{starts_with_longer, starts_with_more, on_err_from}
use Rattle.trace_form.proofs.output.push_names.Goals as goal

pub returns-in_err-push-clause-err : goal.returns-in_err-push-clause-err
returns-in_err-push-clause-err c =
    on_err_from c.from_residual.result (subst (λ text. StartsWith text c.args.out.now) (sym c.in_err-push.ensures.err) c.loop-name.invariant.begins)

pub returns-in_err-push_rule-clause-err : goal.returns-in_err-push_rule-clause-err
returns-in_err-push_rule-clause-err c =
    on_err_from c.from_residual-in_err-push_rule.result (starts_with_longer _ _ _
    (starts_with_more _ _ _ _ c.loop-name.invariant.begins c.in_ok-push.ensures.ok) c.in_err-push_rule.ensures.err)
