use Rattle.std.proofs.Common.{◌≡◌, ◌++◌, [], ◌∷◌, length, ap₂, ◌∙◌}
use Rattle.rate_plain.specs.declared.entry.Counted.{Counted}
use Rattle.edge_main.proofs.TalkedLemmas.{same_fault}
use Rattle.edge_main.proofs.stepping.take_step.Goals as goal

pub returns-clause-took : goal.returns-clause-took
returns-clause-took c history counts =
    let told = c.in_ok-answer.ensures.answers 64 4096 history counts in
    let place : c.length-position.result ≡ length history = c.length-position.ensures 64 4096 history counts in
    record {
      answer_is = told.0;
      counter_is = told.1;
      shown_is = c.in_ok-push.ensures.ok ∙ ap₂ (λ n answer. c.args.shown.now ++ record { position = n; answer = answer } ∷ []) place told.0;
    }

pub returns-in_err-answer-clause-spent : goal.returns-in_err-answer-clause-spent
returns-in_err-answer-clause-spent c is history counts =
    (c.in_err-answer.ensures.spent 64 4096 history counts).0 (same_fault c.from_residual.result _ c.from_residual.ensures.1 is)
