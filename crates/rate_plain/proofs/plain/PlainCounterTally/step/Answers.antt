use Rattle.std.proofs.Common.{◌≡◌, [], ◌∷◌, ◌++◌, ap, ◌∙◌, arith}
use Rattle.rate_plain.specs.History.{entry_of}
use Rattle.rate_plain.specs.Plain.{entry_after}
use Rattle.rate_plain.proofs.plain.PlainCounterTally.step.Goals as goal

-- what is kept and the two numbers are those of the history
pub returns-clause-answers : goal.returns-clause-answers
returns-clause-answers c lanes cap history stands =
    let same : entry_after c.args.self.now c.args.caller c.args.ask.now ≡ entry_of lanes cap history c.args.caller c.args.ask.now = λ i. entry_of (stands.its_lanes i) (stands.its_cap i) (stands.kept i) c.args.caller c.args.ask.now in
    let made = c.in_ok-entry.ensures.ok ∙ same in (
      ap (λ e. e.answer) made,
      record {
        kept = c.in_ok-push.ensures.ok ∙ (λ i. stands.kept i ++ made i ∷ []);
        its_lanes = stands.its_lanes;
        its_cap = stands.its_cap;
      },
    )

pub returns-clause-spent : goal.returns-clause-spent
returns-clause-spent c lanes cap history stands =
    let counted = c.length.ensures lanes cap history stands in
    grind (arith, counted)
