-- Each branch has the clause of its callee.
use Rattle.std.proofs.Common.{true, subst, sym, ◌∙◌}
use Rattle.text_match.specs.Splits.{IsFirstFound}
use Rattle.text_match.proofs.needle.Needle.first_split.Goals as goal

pub returns-then-strict : goal.returns-then-strict
returns-then-strict c =
    subst (λ strict. IsFirstFound strict c.args.self.now c.args.text.now c.exact_split.result) (sym c.if-strict.true) (
    subst (λ piece. IsFirstFound true piece c.args.text.now c.exact_split.result) (c.bytes.ensures ∙ c.self.view_is) c.exact_split.ensures)

pub returns-else-strict : goal.returns-else-strict
returns-else-strict c =
    subst (λ strict. IsFirstFound strict c.args.self.now c.args.text.now c.folded_split.result) (sym c.if-strict.false) c.folded_split.ensures
