use Rattle.std.proofs.Common.{◌≡◌, ◌≤◌, ◌<◌, ◌+◌, ℕ, suc, List, ap, subst, ◌∙◌, arith}
use Rattle.edge_outside.specs.Lines.{lines_of}
use Rattle.edge_main.specs.Making.{made_lines, made_trace}
use Rattle.edge_main.specs.Spent.{IsSpentOn}
use Rattle.edge_main.specs.Trying.{IsTriedBy}
use Rattle.edge_main.proofs.MadeLinesLemmas.{made_text, taken_text, made_more, made_among}
use Rattle.edge_main.proofs.MakingLemmas.{no_lines}
use Rattle.edge_main.proofs.TalkedLemmas.{same_fault}
use Rattle.edge_main.proofs.TrialLemmas.{tried_spent}
use Rattle.edge_main.proofs.trial.try_lines.Goals as goal

pub loop-index-init : goal.loop-index-init
loop-index-init c =
    let trial = c.in_ok-trial.trial in
    record {
      made = c.new-made.ensures;
      tried = subst (λ (text : List ℕ). IsTriedBy trial (lines_of text)) (no_lines c.args.seed) c.in_ok-trial.ensures.tried;
      lines = c.in_ok-trial.ensures.lines;
    }

pub take_line-requires-clause-so : goal.take_line-requires-clause-so
take_line-requires-clause-so c = (lines_of (made_lines c.args.seed c.loop-index.index), c.loop-index.invariant.tried)

pub loop-index-preserved : goal.loop-index-preserved
loop-index-preserved c =
    let seed = c.args.seed in
    let index = c.loop-index.index in
    let inv = c.loop-index.invariant in
    let trial = c.take_line.new.self in
    let few = c.requires.few in
    let here = c.loop-index-test.true in
    let low : index ≤ 10000001 = omega (arith, here, few) in
    let (text, is_line) = made_text seed index low in
    let line_is = c.bytes.ensures ∙ c.in_ok-line.ensures.ok in
    let same = taken_text seed index text _ _ is_line line_is c.without_newline.ensures in
    let next : index + 1 ≡ suc index = omega arith in
    let so = c.in_ok-take_line.ensures.tries (lines_of (made_lines seed index)) inv.tried in
    record {
      made = c.in_ok-line.ensures.next;
      tried = subst (λ (lines : List (List ℕ)). IsTriedBy trial lines) (made_more seed index (index + 1) text _ low is_line same next) so;
      lines = c.in_ok-take_line.ensures.lines ∙ ap (λ (n : ℕ). n + 1) inv.lines;
    }

pub returns-in_err-take_line-clause-spent : goal.returns-in_err-take_line-clause-spent
returns-in_err-take_line-clause-spent c is =
    let seed = c.args.seed in
    let index = c.loop-index.index in
    let (to, t) = c.loop-index.invariant.tried in
    let few = c.requires.few in
    let here = c.loop-index-test.true in
    let low : index ≤ 10000001 = omega (arith, here, few) in
    let within : suc index ≤ c.args.requests + 1 = omega (arith, here) in
    let end : c.args.requests + 1 ≤ 10000001 = omega (arith, few) in
    let (text, is_line) = made_text seed index low in
    let line_is = c.bytes.ensures ∙ c.in_ok-line.ensures.ok in
    let same = taken_text seed index text _ _ is_line line_is c.without_newline.ensures in
    let (rest, among) = made_among seed index (c.args.requests + 1) text within end is_line in
    let front = lines_of (made_lines seed index) in
    let refused = same_fault c.from_residual-in_err-take_line.result _ c.from_residual-in_err-take_line.ensures.1 is in
    let spent = c.in_err-take_line.ensures.spent refused front to t in
    tried_spent c.loop-index.trial front rest text (made_trace seed c.args.requests) to t (subst (λ (given : List ℕ). IsSpentOn to given) same spent) among
