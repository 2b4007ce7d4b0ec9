-- A printed number is read as the same one, and so are the bits of a block.
use Rattle.std.proofs.Common.{◌≡◌, ℕ, zero, suc, ◌+◌, ◌-◌, ◌*◌, ◌^◌, ◌<◌, ◌≤◌, true, false, ◌&&◌, nat_le, ◌==◌, List, [], ◌∷◌, get_or, Option, Some, None, option_map, codes, bytes_eq, decimal, ℤ, pos, negsuc, neg_ℤ, inl, inr, refl, ap, subst, arith, leb-true, le-leb, ne_eqb}
use Rattle.std.proofs.lemmas.Bool.{cases_Bool, and_parts}
use Rattle.std.proofs.lemmas.Bool.Decides.{nat_tests}
use Rattle.std.proofs.lemmas.Option.{cond_some}
use Rattle.std.proofs.lemmas.Fmt.{decimal_is_IsNumeral, first_decimal, decimal_digit}
use Rattle.std.specs.Char.{digit_value}
use Rattle.std.specs.List.{list_all}
use Rattle.std.specs.Str.Parse.{digits_value}
use Rattle.edge_base.specs.Token.{is_digit, is_counting, size_of, number_of, bits_of}
use Rattle.expr_lexer.proofs.ByteLemmas.{all_digits, digit_counts, digit_is_no_minus, counted_is_digit, counted_is_not_zero}
use Rattle.edge_base.proofs.DigitLemmas.{digits_grow}
use Rattle.edge_base.specs.Printed.{signed}

-- ---- digits that count

counts : (text : List ℕ) → 48 < get_or text 0 0 → list_all is_digit text ≡ true → is_counting text ≡ true
counts [] above digits = absurd (omega arith)
counts (byte ∷ text) above digits = let both : (is_digit byte ≡ true) × (list_all is_digit text ≡ true) = and_parts _ _ digits in
    let first : (nat_le 49 byte && nat_le byte 57) ≡ true = digit_counts byte both.0 (ne_eqb byte 48 (λ same. omega (arith, above, same))) in
    rw (first, both.1) refl

first_value : (byte : ℕ) → (nat_le 49 byte && nat_le byte 57) ≡ true → 0 < digit_value byte
first_value byte h = grind (arith, nat_tests)

counting_is_positive : (text : List ℕ) → is_counting text ≡ true → 0 < digits_value 10 text
counting_is_positive [] h = absurd (cc)
counting_is_positive (byte ∷ text) h = let both : ((nat_le 49 byte && nat_le byte 57) ≡ true) × (list_all is_digit text ≡ true) = and_parts _ _ h in
    omega (arith, first_value byte both.0, digits_grow (0 * 10 + digit_value byte) text)

-- a size that digits write is in range
record IsSized (most size : ℕ) : Type 0 where
  positive : 0 < size
  within : size ≤ most

size_in_range : (most : ℕ) (digits : List ℕ) (size : ℕ) → size_of most digits ≡ Some size → IsSized most size
size_in_range most digits size h =
    let found : ((is_counting digits && nat_le (digits_value 10 digits) most) ≡ true) × (digits_value 10 digits ≡ size) = cond_some _ _ _ h in
    let both : (is_counting digits ≡ true) × (nat_le (digits_value 10 digits) most ≡ true) = and_parts _ _ found.0 in
    record { positive = omega (arith, counting_is_positive digits both.0); within = omega (arith, leb-true _ _ both.1) }

pub decimal_digits : (n : ℕ) → n < 2 ^ 64 → list_all is_digit (decimal n) ≡ true
decimal_digits n small = all_digits (decimal n) (decimal_is_IsNumeral n small).0.1

decimal_counts : (n : ℕ) → 0 < n → n < 2 ^ 64 → is_counting (decimal n) ≡ true
decimal_counts n some small = counts (decimal n) (first_decimal n some small) (decimal_digits n small)

decimal_has_size : (most n : ℕ) → IsSized most n → most < 2 ^ 64 → size_of most (decimal n) ≡ Some n
decimal_has_size most n h room =
    let small : n < 2 ^ 64 = omega (arith, h.within) in
    let counted : is_counting (decimal n) ≡ true = decimal_counts n h.positive small in
    let value : digits_value 10 (decimal n) ≡ n = (decimal_is_IsNumeral n small).1 in
    rw (counted, value, le-leb n most h.within) refl

-- ---- numbers

-- the number is within i64
abbrev pub IsInI64 : ℤ → Type 0
IsInI64 (pos n) = n ≤ 2 ^ 63 - 1
IsInI64 (negsuc n) = suc n ≤ 2 ^ 63

came_from : {A B : Type 0} (f : A → B) (found : Option A) (b : B) → option_map f found ≡ Some b → (a : A) × (found ≡ Some a) × (f a ≡ b)
came_from f None b h = absurd (cc)
came_from f (Some a) b h = (a, refl, cc)

negative_in_range : (size : ℕ) → IsSized (2 ^ 63) size → IsInI64 (neg_ℤ (pos size))
negative_in_range zero h = absurd (omega arith)
negative_in_range (suc n) h = h.within

pub number_in_range : (text : List ℕ) (n : ℤ) → number_of text ≡ Some n → IsInI64 n
number_in_range [] n h = absurd (cc)
number_in_range (byte ∷ text) n h = elim (cases_Bool (bytes_eq (byte ∷ text) (codes "0"))) [
  | inl lone ↦ let found : Some (pos 0) ≡ Some n = rw lone at h in let same : pos 0 ≡ n = cc in subst IsInI64 same (omega arith)
  | inr other ↦ elim (cases_Bool (byte == 45)) [
    | inl minus ↦ let from = came_from (λ (size : ℕ). neg_ℤ (pos size)) (size_of (2 ^ 63) text) n (rw (other, minus) at h) in
        subst IsInI64 from.2 (negative_in_range from.0 (size_in_range (2 ^ 63) text from.0 from.1))
    | inr plain ↦ let from = came_from pos (size_of (2 ^ 63 - 1) (byte ∷ text)) n (rw (other, plain) at h) in
        subst IsInI64 from.2 (size_in_range (2 ^ 63 - 1) (byte ∷ text) from.0 from.1).within
  ]
]

not_lone_zero : (byte : ℕ) (text : List ℕ) → (byte == 48) ≡ false → bytes_eq (byte ∷ text) (codes "0") ≡ false
not_lone_zero byte text h = rw h refl

counted_number : (text : List ℕ) (size : ℕ) → is_counting text ≡ true → size_of (2 ^ 63 - 1) text ≡ Some size → number_of text ≡ Some (pos size)
counted_number [] size h k = absurd (cc)
counted_number (byte ∷ text) size h k = let first : (nat_le 49 byte && nat_le byte 57) ≡ true = (and_parts _ _ h).0 in
    rw (not_lone_zero byte text (counted_is_not_zero byte first), digit_is_no_minus byte (counted_is_digit byte first), k) refl

signed_is_read : (n : ℤ) → IsInI64 n → number_of (signed n) ≡ Some n
signed_is_read (pos zero) h = rw (decimal_digit 0 (omega arith)) refl
signed_is_read (pos (suc n)) h =
    counted_number (decimal (suc n)) (suc n) (decimal_counts (suc n) (omega arith) (omega arith))
    (decimal_has_size (2 ^ 63 - 1) (suc n) (record { positive = omega arith; within = h }) (omega arith))
signed_is_read (negsuc n) h = ap (option_map (λ (size : ℕ). neg_ℤ (pos size))) (decimal_has_size (2 ^ 63) (suc n) (record { positive = omega arith; within = h }) (omega arith))

pub number_is_read : (n : ℤ) (text : List ℕ) → number_of text ≡ Some n → number_of (signed n) ≡ Some n
number_is_read n text h = signed_is_read n (number_in_range text n h)

-- ---- bits

bits_in_range : (text : List ℕ) (bits : ℕ) → bits_of text ≡ Some bits → bits ≤ 999
bits_in_range text bits h = elim (cases_Bool (bytes_eq text (codes "0"))) [
  | inl lone ↦ let found : Some 0 ≡ Some bits = rw lone at h in let same : 0 ≡ bits = cc in omega (arith, same)
  | inr other ↦ (size_in_range 999 text bits (rw other at h)).within
]

counted_is_not_lone : (text : List ℕ) → is_counting text ≡ true → bytes_eq text (codes "0") ≡ false
counted_is_not_lone [] h = absurd (cc)
counted_is_not_lone (byte ∷ text) h = not_lone_zero byte text (counted_is_not_zero byte (and_parts _ _ h).0)

in_bits_are_read : (bits : ℕ) → bits ≤ 999 → bits_of (decimal bits) ≡ Some bits
in_bits_are_read zero h = rw (decimal_digit 0 (omega arith)) refl
in_bits_are_read (suc n) h =
    rw (counted_is_not_lone (decimal (suc n)) (decimal_counts (suc n) (omega arith) (omega (arith, h))))
    (decimal_has_size 999 (suc n) (record { positive = omega arith; within = h }) (omega arith))

pub bits_are_read : (bits : ℕ) (text : List ℕ) → bits_of text ≡ Some bits → bits_of (decimal bits) ≡ Some bits
bits_are_read bits text h = in_bits_are_read bits (bits_in_range text bits h)
