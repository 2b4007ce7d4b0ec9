-- Texts by their bytes: which byte one is, which comes first, what each passes, and the digits that count.
use Rattle.std.proofs.Common.{◌≡◌, ℕ, ◌<◌, Bool, true, false, ◌&&◌, ◌||◌, nat_le, ◌==◌, List, [], ◌∷◌, ◌++◌, length, inl, inr, refl, sym, subst, arith, eqb-true}
use Rattle.std.proofs.lemmas.Bool.{and_parts, and_from, or_cases, both_ways}
use Rattle.std.proofs.lemmas.Bool.Decides.{nat_tests}
use Rattle.std.specs.Char.{digit_value}
use Rattle.std.specs.List.{list_all}
use Rattle.std.specs.Str.Parse.{AllDigits}
use Rattle.edge_base.specs.Token.{is_digit, is_name_start, is_counting}

-- what holds of a byte that is one of several, the last of them first
pub case_at : (P : ℕ → Type 0) (byte last : ℕ) (more : Bool) → (more || byte == last) ≡ true → (more ≡ true → P byte) → P last → P byte
case_at P byte last more h earlier here = elim (or_cases more (byte == last) h) [
  | inl before ↦ earlier before
  | inr same ↦ subst P (sym (eqb-true byte last same)) here
]

-- ---- the first byte

abbrev pub begins_with : (ℕ → Bool) → List ℕ → Bool
begins_with test [] = false
begins_with test (byte ∷ text) = test byte

pub begins-append : (test : ℕ → Bool) (text more : List ℕ) → begins_with test text ≡ true → begins_with test (text ++ more) ≡ true
begins-append test [] more h = absurd (cc)
begins-append test (byte ∷ text) more h = h

pub begins_by : (some more : ℕ → Bool) → ((byte : ℕ) → some byte ≡ true → more byte ≡ true) → (text : List ℕ)
    → begins_with some text ≡ true → begins_with more text ≡ true
begins_by some more step [] h = absurd (cc)
begins_by some more step (byte ∷ text) h = step byte h

-- a text that begins with this byte does not begin as a test asks that fails there
pub begins_apart : (test : ℕ → Bool) (first : ℕ) (text : List ℕ) → test first ≡ false → begins_with (λ byte. byte == first) text ≡ true
    → begins_with test text ≡ true → ⊥
begins_apart test first [] fails h k = cc
begins_apart test first (byte ∷ text) fails h k = both_ways (test first) fails (subst (λ (b : ℕ). test b ≡ true) (eqb-true byte first h) k)

-- ---- each byte

pub all_by : (some more : ℕ → Bool) → ((byte : ℕ) → some byte ≡ true → more byte ≡ true) → (text : List ℕ)
    → list_all some text ≡ true → list_all more text ≡ true
all_by some more step [] h = refl
all_by some more step (byte ∷ text) h = let both : (some byte ≡ true) × (list_all some text ≡ true) = and_parts _ _ h in
    and_from _ _ (step byte both.0) (all_by some more step text both.1)

pub begins_from_all : (test : ℕ → Bool) (text : List ℕ) → 0 < length text → list_all test text ≡ true → begins_with test text ≡ true
begins_from_all test [] some h = absurd (omega arith)
begins_from_all test (byte ∷ text) some h = (and_parts (test byte) (list_all test text) h).0

pub all_from_digits : (radix : ℕ) (test : ℕ → Bool) → ((byte : ℕ) → digit_value byte < radix → test byte ≡ true) → (text : List ℕ)
    → AllDigits radix text → list_all test text ≡ true
all_from_digits radix test step [] h = refl
all_from_digits radix test step (byte ∷ text) h = and_from _ _ (step byte h.0) (all_from_digits radix test step text h.1)

-- ---- decimal digits

decimal_byte : (byte : ℕ) → digit_value byte < 10 → is_digit byte ≡ true
decimal_byte byte below = grind (arith, nat_tests)

pub all_digits : (text : List ℕ) → AllDigits 10 text → list_all is_digit text ≡ true
all_digits text h = all_from_digits 10 is_digit decimal_byte text h

pub digit_counts : (byte : ℕ) → is_digit byte ≡ true → (byte == 48) ≡ false → (nat_le 49 byte && nat_le byte 57) ≡ true
digit_counts byte digit other = grind (arith, nat_tests)

pub digit_is_no_minus : (byte : ℕ) → is_digit byte ≡ true → (byte == 45) ≡ false
digit_is_no_minus byte digit = grind (arith, nat_tests)

pub digit_starts_no_name : (byte : ℕ) → is_digit byte ≡ true → is_name_start byte ≡ false
digit_starts_no_name byte digit = grind (arith, nat_tests)

pub counted_is_digit : (byte : ℕ) → (nat_le 49 byte && nat_le byte 57) ≡ true → is_digit byte ≡ true
counted_is_digit byte h = grind (arith, nat_tests)

pub counted_is_not_zero : (byte : ℕ) → (nat_le 49 byte && nat_le byte 57) ≡ true → (byte == 48) ≡ false
counted_is_not_zero byte h = grind (arith, nat_tests)

pub counting_digits : (text : List ℕ) → is_counting text ≡ true → list_all is_digit text ≡ true
counting_digits [] h = absurd (cc)
counting_digits (byte ∷ text) h = let both : ((nat_le 49 byte && nat_le byte 57) ≡ true) × (list_all is_digit text ≡ true) = and_parts _ _ h in
    and_from _ _ (counted_is_digit byte both.0) both.1
