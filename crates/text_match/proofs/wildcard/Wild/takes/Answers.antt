-- The first piece is needed, and the takes behind it are all.
use Rattle.std.proofs.Common.{◌∷◌, ◌∙◌, ap, subst, IfOk, MatchOption}
use Rattle.text_match.specs.Wildcards.{IsMatched, First}
use Rattle.text_match.proofs.TurnLemmas.{front_needed, front_ok}
use Rattle.text_match.proofs.wildcard.Wild.takes.Goals as goal

pub returns-in-None : goal.returns-in-None
returns-in-None c =
    let view = ap (λ first. first ∷ c.self.inside.later) c.bytes.ensures ∙ c.self.view_is in
    subst (λ pieces. ¬ (IsMatched pieces c.args.strict c.args.text.now)) view
    (front_needed c.args.strict c.bytes.result.now c.self.inside.later c.args.text.now c.in-None.ensures)

pub returns-in-Some : goal.returns-in-Some
returns-in-Some c =
    let view = ap (λ first. first ∷ c.as_slice.result.now) c.bytes.ensures ∙ ap (λ pieces. c.self.inside.first ∷ pieces) c.as_slice.ensures ∙ c.self.view_is in
    subst (λ pieces. IfOk c.first_turns.result (λ found. MatchOption found (¬ (IsMatched pieces c.args.strict c.args.text.now)) (λ takes. First pieces c.args.strict c.args.text.now takes))) view
    (front_ok c.args.strict c.bytes.result.now c.as_slice.result.now c.args.text.now c.in-Some.rest.now c.first_turns.result c.in-Some.ensures c.first_turns.ensures)
