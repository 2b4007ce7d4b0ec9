-- Terminals go wrong at one place, whatever finds it; and the loop that reads them finds it.
use Rattle.std.proofs.Common.{◌≡◌, ℕ, ◌+◌, ◌<◌, ◌≤◌, List, [], ◌∷◌, ◌++◌, length, take, drop, ap, subst, ◌∙◌, sym, arith, append_assoc}
use Rattle.std.proofs.lemmas.List.{take-append-drop, take-take}
use Rattle.std.specs.declared.option.Option.TheVariants.{None, Some}
use Rattle.std.specs.Option.{option_and_then}
use Rattle.edge_base.specs.declared.expression.Expr.{Expr}
use Rattle.edge_base.specs.declared.terminal.Terminal.{Terminal}
use Rattle.edge_base.specs.Grammar.{Derives, Begins, IsFault}
use Rattle.expr_parser.specs.declared.state.State.{State}
use Rattle.expr_parser.specs.Machine.{start, step, ending, outcome, counted, taken}
use Rattle.expr_parser.proofs.Steps.{read_is_derived}
use Rattle.expr_parser.proofs.Faults.{refused_is_fault}

-- as far as the loop has come: what is left has the outcome and the fault of the whole
pub record Going (ts rest : List Terminal) (at : ℕ) (s : State) : Type 0 where
  pub all : length ts ≡ at + length rest
  pub tree : outcome rest s ≡ outcome ts start
  pub place : at + taken rest s ≡ taken ts start

pub refused_here : (ts rest : List Terminal) (t : Terminal) (at : ℕ) (s : State) → Going ts (t ∷ rest) at s → step s t ≡ None → IsFault ts at
refused_here ts rest t at s g q =
    let none : outcome ts start ≡ None = sym g.tree ∙ ap (λ o. option_and_then (λ n. outcome rest n) o) q in
    let p : counted (λ n. taken rest n) (step s t) ≡ 0 = ap (λ o. counted (λ n. taken rest n) o) q in
    let same : taken ts start ≡ at = omega (arith, g.place) in
    subst (λ k. IsFault ts k) same (refused_is_fault ts none)

pub cut_short : (ts : List Terminal) (at : ℕ) (s : State) → Going ts [] at s → ending s ≡ None → IsFault ts at
cut_short ts at s g q =
    let none : outcome ts start ≡ None = sym g.tree ∙ q in
    let same : taken ts start ≡ at = omega (arith, g.place) in
    subst (λ k. IsFault ts k) same (refused_is_fault ts none)

pub ended_well : (ts : List Terminal) (at : ℕ) (s : State) (e : Expr) → Going ts [] at s → ending s ≡ Some e → Derives ts e
ended_well ts at s e g q = read_is_derived ts e (sym g.tree ∙ q)

-- what begins an expression begins with what begins it
begins_less : (x y : List Terminal) → Begins (x ++ y) → Begins x
begins_less x y b = (y ++ b.0, b.1, subst (λ v. Derives v b.1) (append_assoc x y b.0) b.2)

not_before : (ts : List Terminal) (a b : ℕ) → IsFault ts a → IsFault ts b → ¬ (a < b)
not_before ts a b f g h =
    let within : b ≤ length ts = g.within in
    let less : a + 1 ≤ b = omega arith in
    let front : take (a + 1) (take b ts) ++ drop (a + 1) (take b ts) ≡ take b ts = take-append-drop (a + 1) (take b ts) in
    let begun = begins_less (take (a + 1) (take b ts)) (drop (a + 1) (take b ts)) (subst (λ v. Begins v) (sym front) g.begins) in
    f.stops (omega arith) (subst (λ v. Begins v) (take-take (a + 1) b ts less) begun)

pub one_fault : (ts : List Terminal) (a b : ℕ) → IsFault ts a → IsFault ts b → a ≡ b
one_fault ts a b f g =
    let first : ¬ (a < b) = not_before ts a b f g in
    let second : ¬ (b < a) = not_before ts b a g f in
    omega arith
