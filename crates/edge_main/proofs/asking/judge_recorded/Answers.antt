use Rattle.std.proofs.Common.{[], ◌++◌, refl, sym, ap, subst, ◌∙◌}
use Rattle.std.specs.Arc.{arc_value}
use Rattle.judge_core.specs.Judging.{judging}
use Rattle.judge_core.specs.Stands.{judgement_of}
use Rattle.judge_core.specs.Values.{AreTold}
use Rattle.trace_form.specs.declared.output.LineParts.{LineParts}
use Rattle.edge_main.specs.Counting.{talked}
use Rattle.edge_main.specs.Stepping.{IsTold}
use Rattle.edge_main.proofs.AskedLemmas.{told_of, spent_first, spent_then}
use Rattle.edge_main.proofs.TalkedLemmas.{same_fault}
use Rattle.edge_main.proofs.asking.judge_recorded.Goals as goal

pub returns-clause-told : goal.returns-clause-told
returns-clause-told g c s counts in_version of_config numbered =
    let recorded = c.args.recorded in
    let picked = c.args.picked in
    let judged = c.in_ok-judged.judged in
    let config = arc_value picked.config in
    let here = talked (judging g.listed config recorded.request) s.history in
    let one = c.in_ok-judged.ensures.judged s.history counts in
    let follows = c.in_ok-verdict.ensures.follows here.history one.talked.counter_is in
    let followed = c.in_ok-verdict.field-0 in
    let told =
    told_of g.listed s recorded config of_config (judgement_of judged) (arc_value judged.config) one.config c.reply_used-used.result
    c.reply_used-used.ensures one.talked.ended_is c.args.number picked.number c.in_ok-came.came c.judge_request.new.shown c.follow.new.shown
    c.follow.new.counter followed.headers numbered in_version (c.in_ok-came.ensures ∙ c.as_slice.ensures)
    (one.talked.counts_are ∙ ap (λ xs. xs ++ here.counts) c.new-counts.ensures) follows.backed in
    subst (λ (parts : LineParts). IsTold g.listed recorded c.follow.new.counter parts s)
    (λ i. record {
      number = c.args.number;
      version = picked.number;
      verdict = (sym follows.verdict) i;
      request = (sym follows.request) i;
      came = c.in_ok-came.came;
      counts = c.follow.new.shown;
      reply = followed.headers;
    })
    told

pub returns-in_err-judged-clause-spent : goal.returns-in_err-judged-clause-spent
returns-in_err-judged-clause-spent g c is s counts in_version of_config numbered =
    spent_first g.listed s c.args.recorded (arc_value c.args.picked.config) of_config (c.in_err-judged.ensures.spent (same_fault c.from_residual-in_err-judged.result _ c.from_residual-in_err-judged.ensures.1 is) s.history counts)

pub returns-in_err-verdict-clause-spent : goal.returns-in_err-verdict-clause-spent
returns-in_err-verdict-clause-spent g c is s counts in_version of_config numbered =
    let recorded = c.args.recorded in
    let judged = c.in_ok-judged.judged in
    let config = arc_value c.args.picked.config in
    let here = talked (judging g.listed config recorded.request) s.history in
    let one = c.in_ok-judged.ensures.judged s.history counts in
    spent_then g.listed s recorded config of_config (judgement_of judged) (arc_value judged.config) one.config c.reply_used-used.result
    c.reply_used-used.ensures one.talked.ended_is (c.in_err-verdict.ensures.spent (same_fault c.from_residual-in_err-verdict.result _ c.from_residual-in_err-verdict.ensures.1 is) here.history one.talked.counter_is)
