-- Places in a list: what is set, and what is looked up.
use Rattle.std.proofs.Common.{◌≡◌, ℕ, zero, suc, ◌≤◌, length, arith, List, [], ◌∷◌, Option, None, Some, slice_get, slice_set, refl, sym, ap}

-- what is set again, and what was there, in any list
pub set_again : {A : Type 0} (xs : List A) (k : ℕ) (x y : A) → slice_set (slice_set xs k x) k y ≡ slice_set xs k y
set_again [] k x y = refl
set_again (z ∷ zs) zero x y = refl
set_again (z ∷ zs) (suc k) x y = ap (λ rest. z ∷ rest) (set_again zs k x y)

pub set_same : {A : Type 0} (xs : List A) (k : ℕ) (x : A) → slice_get xs k ≡ Some x → slice_set xs k x ≡ xs
set_same [] k x is = refl
set_same (z ∷ zs) zero x is = let same : z ≡ x = cc in ap (λ one. one ∷ zs) (sym same)
set_same (z ∷ zs) (suc k) x is = ap (λ rest. z ∷ rest) (set_same zs k x is)

pub set_past : {A : Type 0} (xs : List A) (k : ℕ) (x : A) → slice_get xs k ≡ None → slice_set xs k x ≡ xs
set_past [] k x is = refl
set_past (z ∷ zs) zero x is = absurd (cc)
set_past (z ∷ zs) (suc k) x is = ap (λ rest. z ∷ rest) (set_past zs k x is)

-- what is looked up where one was set, and elsewhere
pub get_set_same : {A : Type 0} (xs : List A) (k : ℕ) (x y : A) → slice_get xs k ≡ Some x → slice_get (slice_set xs k y) k ≡ Some y
get_set_same [] k x y is = absurd (cc)
get_set_same (z ∷ zs) zero x y is = refl
get_set_same (z ∷ zs) (suc k) x y is = get_set_same zs k x y is

pub get_set_other : {A : Type 0} (xs : List A) (k m : ℕ) (y : A) → (k ≡ m → ⊥) → slice_get (slice_set xs k y) m ≡ slice_get xs m
get_set_other [] k m y other = refl
get_set_other (z ∷ zs) zero zero y other = absurd (other refl)
get_set_other (z ∷ zs) zero (suc m) y other = refl
get_set_other (z ∷ zs) (suc k) zero y other = refl
get_set_other (z ∷ zs) (suc k) (suc m) y other = get_set_other zs k m y (λ is. other (ap suc is))

-- nothing is there beyond the end
pub get_past : {A : Type 0} (xs : List A) (k : ℕ) → length xs ≤ k → slice_get xs k ≡ None
get_past [] k past = refl
get_past (z ∷ zs) zero past = absurd (omega (arith, past))
get_past (z ∷ zs) (suc k) past = get_past zs k (omega (arith, past))

pub set_beyond : {A : Type 0} (xs : List A) (k : ℕ) (x : A) → length xs ≤ k → slice_set xs k x ≡ xs
set_beyond xs k x past = set_past xs k x (get_past xs k past)

-- nothing was found, since it is no item
pub none_of : {A : Type 0} (found : Option A) → ((x : A) → found ≡ Some x → ⊥) → found ≡ None
none_of None not_some = refl
none_of (Some x) not_some = absurd (not_some x refl)
