use Rattle.std.proofs.Common.{◌++◌, ◌∙◌, sym, subst, ap}
use Rattle.expr_parser.specs.Spelling.{spelling}
use Rattle.expr_parser.specs.Reread.{IsReadAgain}
use Rattle.expr_parser.proofs.Rereading.{spelling_is_read}
use Rattle.expr_parser.proofs.printer.print.Goals as goal

pub returns-clause-again : goal.returns-clause-again
returns-clause-again c =
    let text = c.into_text.ensures ∙ c.in_ok-push_expr.ensures ∙ ap (λ front. front ++ spelling c.args.expr.now) c.new-out.ensures in
    subst (λ written. IsReadAgain written c.args.expr.now) (sym text) (spelling_is_read c.args.expr.now)
