-- Where an entry point is found.
use Rattle.std.proofs.Common.{◌≡◌, ℕ, suc, ◌+◌, ◌<◌, Bool, true, false, cond, List, [], ◌∷◌, length, Option, Some, arith}
use Rattle.std.specs.List.{position_from}

first_or_later : (b : Bool) (i k size : ℕ) (later : Option ℕ) → (later ≡ Some k → k < i + 1 + size) → cond b (Some i) later ≡ Some k → k < i + suc size
first_or_later true i k size later further is = let same : i ≡ k = cc in omega arith
first_or_later false i k size later further is = let bound = further is in omega arith

pub position-within : {K : Type 0} (t : K → Bool) (i : ℕ) (xs : List K) (k : ℕ) → position_from t i xs ≡ Some k → k < i + length xs
position-within t i [] k h = absurd cc
position-within t i (x ∷ xs) k h = first_or_later (t x) i k (length xs) (position_from t (i + 1) xs) (position-within t (i + 1) xs k) h
