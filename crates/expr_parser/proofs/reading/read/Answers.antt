use Rattle.std.proofs.Common.{◌≡◌, ◌∙◌, sym, subst, [], ◌∷◌}
use Rattle.std.proofs.lemmas.List.{nil_from_length}
use Rattle.std.specs.Vec.Iter.{into_iter_items}
use Rattle.edge_base.specs.Grammar.{Derives, IsFault}
use Rattle.expr_parser.proofs.Places.{refused_here, cut_short, ended_well}
use Rattle.expr_parser.proofs.reading.read.Goals as goal

-- a terminal is refused
pub returns-in_default : goal.returns-in_default
returns-in_default c =
    let loop = c.loop-terminal in
    let all = c.into_iter-terminal-iterator.ensures.into_iter_gives.0 in
    let steps : into_iter_items loop.terminal-iterator ≡ c.in-Some.terminal ∷ into_iter_items c.next.new.self = c.in-Some.ensures.steps.0 in
    let going = rw steps at loop.invariant.going in
    subst (λ ts. IsFault ts loop.at) all (refused_here _ _ _ loop.at loop.state going (sym c.in_ok-next.ensures ∙ c.in_default.is))

-- the terminals are read to their end
pub returns-in-Some-3 : goal.returns-in-Some-3
returns-in-Some-3 c =
    let loop = c.loop-terminal in
    let all = c.into_iter-terminal-iterator.ensures.into_iter_gives.0 in
    let none = c.in-None.ensures.steps in
    let empty : into_iter_items loop.terminal-iterator ≡ [] = nil_from_length _ (sym loop.invariant.left ∙ none.0) in
    let going = rw empty at loop.invariant.going in
    subst (λ ts. Derives ts c.in-Some-3.tree) all (ended_well _ loop.at loop.state _ going (sym c.in_ok-tree.ensures ∙ c.in-Some-3.is))

pub returns-in-None-2 : goal.returns-in-None-2
returns-in-None-2 c =
    let loop = c.loop-terminal in
    let all = c.into_iter-terminal-iterator.ensures.into_iter_gives.0 in
    let none = c.in-None.ensures.steps in
    let empty : into_iter_items loop.terminal-iterator ≡ [] = nil_from_length _ (sym loop.invariant.left ∙ none.0) in
    let going = rw empty at loop.invariant.going in
    subst (λ ts. IsFault ts loop.at) all (cut_short _ loop.at loop.state going (sym c.in_ok-tree.ensures ∙ c.in-None-2.is))
