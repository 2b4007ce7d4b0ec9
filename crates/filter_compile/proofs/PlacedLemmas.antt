-- The tests of some steps name their lists by place where those of each part of them do.
use Rattle.std.proofs.Common.{◌≡◌, ℕ, zero, suc, ◌<◌, Bool, true, false, ◌&&◌, List, [], ◌∷◌, ◌++◌, length, get_or, drop, refl, ap, ap₂, ◌∙◌, arith}
use Rattle.edge_fields.specs.declared.kind.Basic.{Basic}
use Rattle.filter_compile.specs.declared.program.Step.{Step}
use Rattle.filter_compile.specs.Steps.{is_step_placed, are_steps_placed}

pub both : (a b : Bool) → (a && b) ≡ true → (a ≡ true) × (b ≡ true)
both true b h = (refl, h)
both false b h = cc

pub placed-append : (lists : List (List ℕ × Basic)) (a b : List Step) → are_steps_placed lists a ≡ true → are_steps_placed lists b ≡ true → are_steps_placed lists (a ++ b) ≡ true
placed-append lists [] b h k = k
placed-append lists (one ∷ a) b h k =
    let parts = both (is_step_placed lists one) (are_steps_placed lists a) h in
    ap₂ (λ x y. x && y) parts.0 (placed-append lists a b parts.1 k)

pub placed-one : (lists : List (List ℕ × Basic)) (one : Step) → is_step_placed lists one ≡ true → are_steps_placed lists (one ∷ []) ≡ true
placed-one lists one h = ap (λ x. x && true) h

pub placed_drop : (lists : List (List ℕ × Basic)) (n : ℕ) (steps : List Step) → are_steps_placed lists steps ≡ true → are_steps_placed lists (drop n steps) ≡ true
placed_drop lists zero steps h = h
placed_drop lists (suc n) [] h = refl
placed_drop lists (suc n) (one ∷ steps) h = placed_drop lists n steps (both (is_step_placed lists one) (are_steps_placed lists steps) h).1

pub placed_first : (lists : List (List ℕ × Basic)) (steps : List Step) (one : Step) → are_steps_placed lists steps ≡ true → 0 < length steps → one ≡ get_or steps 0 one
    → is_step_placed lists one ≡ true
placed_first lists [] one h within is = absurd (omega arith)
placed_first lists (other ∷ steps) one h within is =
    ap (is_step_placed lists) is ∙ (both (is_step_placed lists other) (are_steps_placed lists steps) h).0
