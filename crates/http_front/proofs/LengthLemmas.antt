-- The digits of a length, one by one, and the number that they write.
use Rattle.std.proofs.Common.{◌≡◌, ℕ, zero, suc, ◌+◌, ◌^◌, ◌<◌, ◌≤◌, true, ◌&&◌, nat_le, List, [], ◌∷◌, length, take, get_or, arith, leb-true, length-take}
use Rattle.std.proofs.lemmas.Bool.{and_parts}
use Rattle.std.proofs.lemmas.Bool.Decides.{nat_tests}
use Rattle.std.proofs.lemmas.Int.Digits.{digits_value-lt}
use Rattle.std.proofs.Math.Nat.{pow-le-pow_right}
use Rattle.std.specs.Char.{digit_value}
use Rattle.std.specs.List.{list_all}
use Rattle.std.specs.Str.Parse.{AllDigits, digits_value}
use Rattle.edge_base.specs.Token.{is_digit}
use Rattle.http_front.specs.Framing.{is_length}

digit_below : (d : ℕ) → is_digit d ≡ true → digit_value d < 10
digit_below d h = grind (arith, nat_tests)

pub digit_written : (d : ℕ) → is_digit d ≡ true → (48 ≤ d) × (d ≤ 57) × (digit_value d + 48 ≡ d)
digit_written d h = (grind (arith, nat_tests), grind (arith, nat_tests), grind (arith, nat_tests))

pub all_digits : (value : List ℕ) → is_length value ≡ true → list_all is_digit value ≡ true
all_digits value h =
    let both : ((nat_le 1 (length value) && nat_le (length value) 18) ≡ true) × (list_all is_digit value ≡ true) = and_parts _ _ h in
    both.1

few_digits : (value : List ℕ) → is_length value ≡ true → length value ≤ 18
few_digits value h =
    let both : ((nat_le 1 (length value) && nat_le (length value) 18) ≡ true) × (list_all is_digit value ≡ true) = and_parts _ _ h in
    let sizes : (nat_le 1 (length value) ≡ true) × (nat_le (length value) 18 ≡ true) = and_parts _ _ both.0 in
    leb-true (length value) 18 sizes.1

pub digit_at : (value : List ℕ) (i : ℕ) → list_all is_digit value ≡ true → i < length value → is_digit (get_or value i 0) ≡ true
digit_at [] i all below = absurd (omega arith)
digit_at (d ∷ value) zero all below =
    let both : (is_digit d ≡ true) × (list_all is_digit value ≡ true) = and_parts _ _ all in both.0
digit_at (d ∷ value) (suc i) all below =
    let both : (is_digit d ≡ true) × (list_all is_digit value ≡ true) = and_parts _ _ all in
    digit_at value i both.1 (omega arith)

digits_taken : (value : List ℕ) (n : ℕ) → list_all is_digit value ≡ true → AllDigits 10 (take n value)
digits_taken [] zero all = tt
digits_taken [] (suc n) all = tt
digits_taken (d ∷ value) zero all = tt
digits_taken (d ∷ value) (suc n) all =
    let both : (is_digit d ≡ true) × (list_all is_digit value ≡ true) = and_parts _ _ all in
    (digit_below d both.0, digits_taken value n both.1)

pub number_below : (value : List ℕ) (n : ℕ) → is_length value ≡ true → digits_value 10 (take n value) < 10 ^ 18
number_below value n h =
    let below : digits_value 10 (take n value) < 10 ^ length (take n value) =
    digits_value-lt 10 (take n value) (digits_taken value n (all_digits value h)) in
    let few : length (take n value) ≤ 18 = omega (arith, length-take n value, few_digits value h) in
    let most : 10 ^ length (take n value) ≤ 10 ^ 18 = pow-le-pow_right (omega arith) few in
    omega (arith, below, most)
