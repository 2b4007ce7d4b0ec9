use Rattle.std.proofs.Common.{◌≡◌, ℕ, ◌+◌, cond, List, [], ◌∷◌, ◌++◌, length, length-append, sym, ap, ap₂, ◌∙◌}
use Rattle.std.proofs.lemmas.List.Sums.{sum_by_push}
use Rattle.std.specs.List.{count_by}
use Rattle.edge_main.specs.Summary.{is_passed, is_blocked, is_challenged, is_redirected, is_full, full_in, with_ending}
use Rattle.edge_main.proofs.SummaryLemmas.{endings_more, judged_more}
use Rattle.edge_main.proofs.summary.Summary.add.Goals as goal

pub returns-clause-counts : goal.returns-clause-counts
returns-clause-counts c requests is =
    let parts = c.args.parts.now in
    let kind = parts.verdict.kind in
    record {
      count = ap (λ n. n + 1) is.count ∙ sym (length-append requests (parts ∷ []));
      pass = c.with-self.ensures.pass ∙ ap (λ n. n + cond (is_passed kind) 1 0) is.pass ∙ sym (judged_more is_passed requests parts);
      block = c.with-self.ensures.block ∙ ap (λ n. n + cond (is_blocked kind) 1 0) is.block ∙ sym (judged_more is_blocked requests parts);
      challenge =
          c.with-self.ensures.challenge ∙ ap (λ n. n + cond (is_challenged kind) 1 0) is.challenge ∙ sym (judged_more is_challenged requests parts);
      redirect =
          c.with-self.ensures.redirect ∙ ap (λ n. n + cond (is_redirected kind) 1 0) is.redirect ∙ sym (judged_more is_redirected requests parts);
      full = ap₂ (λ a b. a + b) is.full (c.full_in.ensures.full ∙ ap (λ steps. count_by is_full steps) c.as_slice.ensures) ∙ sym (sum_by_push full_in requests parts);
      endings = c.in_ok-count_ending.ensures.ok ∙ ap₂ (λ rule counts. with_ending rule counts) c.as_ref.ensures.value is.endings ∙ sym (endings_more [] requests parts);
    }
