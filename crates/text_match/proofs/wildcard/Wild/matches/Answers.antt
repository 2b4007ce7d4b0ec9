-- The first piece is needed, and the turns behind it decide.
use Rattle.std.proofs.Common.{◌↔◌, ◌∷◌, ◌∙◌, ap, subst, IsTrue, false}
use Rattle.std.proofs.lemmas.Bool.{false≢true}
use Rattle.text_match.specs.Wildcards.{IsMatched}
use Rattle.text_match.proofs.TurnLemmas.{front_needed, front_decides}
use Rattle.text_match.proofs.wildcard.Wild.matches.Goals as goal

pub returns-in-None : goal.returns-in-None
returns-in-None c =
    let view = ap (λ first. first ∷ c.self.inside.later) c.bytes.ensures ∙ c.self.view_is in
    subst (λ pieces. IsTrue false ↔ IsMatched pieces c.args.strict c.args.text.now) view
    (λ yes. absurd (false≢true yes), λ has. absurd (front_needed c.args.strict c.bytes.result.now c.self.inside.later c.args.text.now c.in-None.ensures has))

pub returns-in-Some : goal.returns-in-Some
returns-in-Some c =
    let view = ap (λ first. first ∷ c.as_slice.result.now) c.bytes.ensures ∙ ap (λ pieces. c.self.inside.first ∷ pieces) c.as_slice.ensures ∙ c.self.view_is in
    let front = front_decides c.args.strict c.bytes.result.now c.as_slice.result.now c.args.text.now c.in-Some.rest.now c.in-Some.ensures in
    subst (λ pieces. IsTrue c.has_turns.result ↔ IsMatched pieces c.args.strict c.args.text.now) view
    (λ yes. front.0 (c.has_turns.ensures.0 yes), λ has. c.has_turns.ensures.1 (front.1 has))
