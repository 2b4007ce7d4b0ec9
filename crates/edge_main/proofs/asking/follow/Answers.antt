use Rattle.std.proofs.Common.{◌∙◌, None, Some, subst, sym}
use Rattle.std.specs.Arc.{arc_value}
use Rattle.judge_core.specs.Stands.{judgement_of}
use Rattle.edge_main.specs.Spent.{IsSpentBack}
use Rattle.edge_main.specs.Stepping.{IsBackedAs, back_for}
use Rattle.edge_main.proofs.AskedLemmas.{backed_none, backed_some}
use Rattle.edge_main.proofs.TalkedLemmas.{same_fault}
use Rattle.edge_main.proofs.asking.follow.Goals as goal

pub returns-in_default-clause-follows : goal.returns-in_default-clause-follows
returns-in_default-clause-follows g c history counts = record {
  verdict = c.alone.ensures.verdict;
  request = c.alone.ensures.request;
  backed =
      subst
      (λ headers. IsBackedAs (back_for g.listed c.args.judged c.args.used history) c.args.shown.now c.args.counter.now c.args.shown.now headers)
      (sym c.alone.ensures.headers)
      (subst
      (λ used. IsBackedAs (back_for g.listed c.args.judged used history) c.args.shown.now c.args.counter.now c.args.shown.now None)
      (sym c.in_default.is)
      (backed_none g.listed (arc_value c.args.judged.config) (judgement_of c.args.judged) c.args.shown.now c.args.counter.now history counts));
}

pub returns-clause-follows : goal.returns-clause-follows
returns-clause-follows g c history counts =
    let judged = c.args.judged in
    let told = c.in_ok-headers.ensures.backed history counts in
    record {
      verdict = c.in_ok-verdict.ensures;
      request = c.in_ok-request.ensures;
      backed =
          subst
          (λ used. IsBackedAs (back_for g.listed judged used history) c.args.shown.now c.judge_reply.new.counter c.judge_reply.new.shown
          (Some (c.in_ok-before.before, c.in_ok-headers.field-0.headers)))
          (sym c.in-Some.is)
          (backed_some g.listed (arc_value judged.config) (judgement_of judged) c.in-Some.reply c.in-Some.at c.args.shown.now
          c.judge_reply.new.counter c.judge_reply.new.shown c.in_ok-headers.field-0 c.in_ok-before.before history
          (c.in_ok-before.ensures ∙ c.as_slice.ensures) told);
    }

pub returns-in_err-headers-clause-spent : goal.returns-in_err-headers-clause-spent
returns-in_err-headers-clause-spent g c is history counts =
    let judged = c.args.judged in
    subst (λ used. IsSpentBack g.listed (arc_value judged.config) (judgement_of judged) used history) (sym c.in-Some.is)
    (c.in_err-headers.ensures.spent (same_fault c.from_residual-in_err-headers.result _ c.from_residual-in_err-headers.ensures.1 is) history counts)
