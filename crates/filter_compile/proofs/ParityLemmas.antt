-- Whether an odd number of a chain's members is true, with one member more.
use Rattle.std.proofs.Common.{◌≡◌, ℕ, zero, suc, ◌+◌, ◌%◌, ◌==◌, ◌<◌, Bool, true, false, cond, not, List, ◌∷◌, refl, sym, ap, ◌∙◌, count_by, arith}
use Rattle.std.proofs.Math.Nat.{suc-mod, mod-lt}
use Rattle.std.proofs.lemmas.List.Sums.{sum_by-cons}
use Rattle.filter_compile.specs.Steps.{is_same}

turned : (r : ℕ) → r < 2 → (suc r % 2 == 1) ≡ not (r == 1)
turned zero low = refl
turned (suc zero) low = refl
turned (suc (suc r)) low = absurd (omega arith)

twice : (b : Bool) → not (not b) ≡ b
twice true = refl
twice false = refl

one_more : (b : Bool) (n : ℕ) → not (is_same b (n % 2 == 1)) ≡ ((cond b 1 0 + n) % 2 == 1)
one_more true n =
    let next : suc n ≡ 1 + n = omega arith in
    sym (turned (n % 2) (mod-lt n (omega arith))) ∙ sym (ap (λ m. m == 1) (suc-mod n 2)) ∙ ap (λ m. m % 2 == 1) next
one_more false n =
    let same : n ≡ 0 + n = omega arith in
    twice (n % 2 == 1) ∙ ap (λ m. m % 2 == 1) same

pub odd_more : {X : Type 0} (p : X → Bool) (x : X) (xs : List X) → not (is_same (p x) (count_by p xs % 2 == 1)) ≡ (count_by p (x ∷ xs) % 2 == 1)
odd_more p x xs = one_more (p x) (count_by p xs) ∙ sym (ap (λ n. n % 2 == 1) (sum_by-cons (λ y. cond (p y) 1 0) x xs))
