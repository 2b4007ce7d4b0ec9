use Rattle.std.proofs.Common.{◌≡◌, ◌∙◌, sym, ap, subst, [], ◌∷◌, length, arith}
use Rattle.std.proofs.lemmas.List.{nil_from_length}
use Rattle.std.specs.Vec.Iter.{into_iter_items}
use Rattle.edge_base.specs.declared.expression.Expr.{Expr}
use Rattle.edge_base.specs.Grammar.{Derives, IsFault}
use Rattle.expr_parser.proofs.Bare.{bare_goes_on, bare_refused, bare_cut_short, bare_ended_well}
use Rattle.expr_parser.proofs.reading.fault_of.Goals as goal

pub loop-terminal-preserved : goal.loop-terminal-preserved
loop-terminal-preserved c =
    let loop = c.loop-terminal in
    let steps : into_iter_items loop.terminal-iterator ≡ c.in-Some.terminal ∷ into_iter_items c.next.new.self = c.in-Some.ensures.steps.0 in
    let going = rw steps at loop.invariant.going in
    let next = bare_goes_on _ _ _ loop.at loop.state c.in-Some-2.next going (sym c.in_ok-next.ensures ∙ c.in-Some-2.is) in record {
      going = rw c.bared-state.ensures next;
      left = (let was = loop.invariant.left in let gone = c.in-Some.ensures.steps.1 in let short = ap length steps in omega arith);
    }

-- a terminal is refused
pub returns-in_default : goal.returns-in_default
returns-in_default c =
    let loop = c.loop-terminal in
    let all = c.into_iter-terminal-iterator.ensures.into_iter_gives.0 in
    let steps : into_iter_items loop.terminal-iterator ≡ c.in-Some.terminal ∷ into_iter_items c.next.new.self = c.in-Some.ensures.steps.0 in
    let going = rw steps at loop.invariant.going in
    subst (λ ts. IsFault ts loop.at) all (bare_refused _ _ _ loop.at loop.state going (sym c.in_ok-next.ensures ∙ c.in_default.is))

-- the terminals are read to their end
pub returns-then-is_tree : goal.returns-then-is_tree
returns-then-is_tree c =
    let loop = c.loop-terminal in
    let all = c.into_iter-terminal-iterator.ensures.into_iter_gives.0 in
    let none = c.in-None.ensures.steps in
    let empty : into_iter_items loop.terminal-iterator ≡ [] = nil_from_length _ (sym loop.invariant.left ∙ none.0) in
    let going = rw empty at loop.invariant.going in
    let ended = bare_ended_well _ loop.at loop.state going (rw c.in_ok-ended.ensures at (sym c.is_tree.ensures ∙ c.if-is_tree.true)) in
    subst (λ ts. (e : Expr) × Derives ts e) all ended

pub returns : goal.returns
returns c =
    let loop = c.loop-terminal in
    let all = c.into_iter-terminal-iterator.ensures.into_iter_gives.0 in
    let none = c.in-None.ensures.steps in
    let empty : into_iter_items loop.terminal-iterator ≡ [] = nil_from_length _ (sym loop.invariant.left ∙ none.0) in
    let going = rw empty at loop.invariant.going in
    subst (λ ts. IsFault ts loop.at) all (bare_cut_short _ loop.at loop.state going (rw c.in_ok-ended.ensures at (sym c.is_tree.ensures ∙ c.if-is_tree.false)))
