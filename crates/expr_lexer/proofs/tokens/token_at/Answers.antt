use Rattle.std.proofs.Common.{ℕ, ◌+◌, ◌-◌, List, length, take, drop, refl, sym, ◌∙◌}
use Rattle.std.proofs.lemmas.List.{take_rest}
use Rattle.edge_base.specs.Cut.{IsTokenAt}
use Rattle.expr_lexer.proofs.CutLemmas.{token_starts, token_stands, no_token_stands}
use Rattle.expr_lexer.proofs.tokens.token_at.Goals as goal

-- what stands at a place and behind it
abbrev rest_of : List ℕ → ℕ → List ℕ
rest_of text at = take (length text - at) (drop at text)

pub returns-then-may_stand_before : goal.returns-then-may_stand_before
returns-then-may_stand_before c =
    let stands : IsTokenAt c.args.text.now (record { kind = c.in-Some.front.kind; start = c.args.at; end = c.args.at + c.in-Some.front.size })
    = token_stands c.args.text.now c.args.at (rest_of c.args.text.now c.args.at) c.in-Some.front.size c.in-Some.front.kind
    (take_rest c.args.text.now c.args.at) c.in-Some.ensures (sym c.may_stand_before.ensures ∙ c.if-may_stand_before.true) in
    let starts = token_starts c.args.text.now (record { kind = c.in-Some.front.kind; start = c.args.at; end = c.args.at + c.in-Some.front.size }) stands in
    (refl, starts.some, starts.fits, stands)

pub returns-else-may_stand_before : goal.returns-else-may_stand_before
returns-else-may_stand_before c =
    no_token_stands c.args.text.now c.args.at (rest_of c.args.text.now c.args.at) c.in-Some.front.size c.in-Some.front.kind (take_rest c.args.text.now c.args.at) c.in-Some.ensures
    (sym c.may_stand_before.ensures ∙ c.if-may_stand_before.false)
