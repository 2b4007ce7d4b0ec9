-- Texts that begin with another.
use Rattle.std.proofs.Common.{◌≡◌, ◌≤◌, List, ◌++◌, ℕ, length, take, refl, sym, ap, ◌∙◌, arith, take_at, take-take, length-take}
use Rattle.std.specs.Prelude.{Result, Ok, Err, OnErr}
use Rattle.std.specs.Io.{StartsWith}

pub starts_with_added : (old text more : List ℕ) → text ≡ old ++ more → StartsWith text old
starts_with_added old text more is = ap (take (length old)) is ∙ take_at old more (length old) refl

pub starts_with_longer : (old front text : List ℕ) → StartsWith front old → StartsWith text front → StartsWith text old
starts_with_longer old front text shorter longer =
    let size : length old ≤ length front = omega (arith, length-take (length old) front, ap length shorter) in
    sym (take-take (length old) (length front) text size) ∙ ap (take (length old)) longer ∙ shorter

pub starts_with_more : (old front text more : List ℕ) → StartsWith front old → text ≡ front ++ more → StartsWith text old
starts_with_more old front text more begins is = starts_with_longer old front text begins (starts_with_added front text more is)

-- a fact that holds holds where there is an error
pub on_err_from : {A E P : Type 0} (r : Result A E) → P → OnErr r P
on_err_from (Ok value) fact = tt
on_err_from (Err error) fact = fact
