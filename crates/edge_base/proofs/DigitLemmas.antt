-- The value of digits that are read one after another.
use Rattle.std.proofs.Common.{◌+◌, ◌*◌, ◌≤◌, List, [], ◌∷◌, ℕ, arith}
use Rattle.std.specs.Char.{digit_value}
use Rattle.std.specs.Str.Parse.{digits_value_after}

-- a value is never above that which more digits make of it
pub digits_grow : (size : ℕ) (digits : List ℕ) → size ≤ digits_value_after 10 size digits
digits_grow size [] = omega arith
digits_grow size (digit ∷ digits) =
    let more : size * 10 + digit_value digit ≤ digits_value_after 10 (size * 10 + digit_value digit) digits =
    digits_grow (size * 10 + digit_value digit) digits in
    omega arith
