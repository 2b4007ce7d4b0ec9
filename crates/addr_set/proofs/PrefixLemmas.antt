-- Digits of a block's bits, one by one, and the bits that they write.
use Rattle.std.proofs.Common.{◌≡◌, ℕ, zero, suc, ◌+◌, ◌-◌, ◌*◌, ◌<◌, ◌≤◌, Bool, true, false, ◌&&◌, nat_le, ◌==◌, List, [], ◌∷◌, length, get_or, codes, Option, Some, None, inl, inr, refl, sym, ap, ◌∙◌, subst, arith, eqb-true, leb-true, le-leb}
use Rattle.std.proofs.lemmas.Bool.{cases_Bool, and_parts, and_from}
use Rattle.std.proofs.lemmas.Bool.Decides.{nat_tests}
use Rattle.std.proofs.lemmas.Int.Digits.{digits_value-lt}
use Rattle.std.proofs.lemmas.Option.{cond_some}
use Rattle.std.proofs.lemmas.Slice.Eq.{bytes_eq-Decides}
use Rattle.std.specs.Char.{digit_value}
use Rattle.std.specs.List.{list_all}
use Rattle.std.specs.Str.{bytes_eq}
use Rattle.std.specs.Str.Parse.{AllDigits, digits_value, digits_value_after}
use Rattle.edge_base.proofs.DigitLemmas.{digits_grow}
use Rattle.edge_base.specs.Token.{is_digit, is_counting, size_of, bits_of}

pub AllDigits-at : (radix : ℕ) (ds : List ℕ) (i : ℕ) → AllDigits radix ds → i < length ds → digit_value (get_or ds i 0) < radix
AllDigits-at radix [] i all below = absurd (omega arith)
AllDigits-at radix (d ∷ ds) zero all below = all.0
AllDigits-at radix (d ∷ ds) (suc i) all below = AllDigits-at radix ds i all.1 (omega arith)

pub digit_value-decimal : (d : ℕ) → 48 ≤ d → d ≤ 57 → digit_value d ≡ d - 48
digit_value-decimal d low high = grind (arith, nat_tests)

pub digit_value-other : (d : ℕ) → digit_value d < 10 → (48 ≤ d) × (d ≤ 57)
digit_value-other d small = grind (arith, nat_tests)

-- ---- what bits say of their digits

digit_below : (d : ℕ) → is_digit d ≡ true → digit_value d < 10
digit_below d h = grind (arith, nat_tests)

counting_below : (d : ℕ) → (nat_le 49 d && nat_le d 57) ≡ true → (digit_value d < 10) × (1 ≤ digit_value d) × (49 ≤ d)
counting_below d h = (grind (arith, nat_tests), grind (arith, nat_tests), grind (arith, nat_tests))

digits_below : (ds : List ℕ) → list_all is_digit ds ≡ true → AllDigits 10 ds
digits_below [] h = tt
digits_below (d ∷ ds) h =
    let both : (is_digit d ≡ true) × (list_all is_digit ds ≡ true) = and_parts _ _ h in
    (digit_below d both.0, digits_below ds both.1)

-- digits that write bits
pub record AreBits (ds : List ℕ) (bits : ℕ) : Type 0 where
  pub all : AllDigits 10 ds
  pub some : 0 < length ds
  pub few : length ds ≤ 3
  pub lone_zero : get_or ds 0 0 ≡ 48 → length ds ≡ 1

few_digits : (ds : List ℕ) → is_counting ds ≡ true → digits_value 10 ds ≤ 999 → length ds ≤ 3
few_digits [] h small = omega arith
few_digits (a ∷ []) h small = omega arith
few_digits (a ∷ b ∷ []) h small = omega arith
few_digits (a ∷ b ∷ c ∷ []) h small = omega arith
few_digits (a ∷ b ∷ c ∷ d ∷ ds) h small =
    let both : ((nat_le 49 a && nat_le a 57) ≡ true) × (list_all is_digit (b ∷ c ∷ d ∷ ds) ≡ true) = and_parts _ _ h in
    let first = (counting_below a both.0).1 in
    let grown = digits_grow ((((0 * 10 + digit_value a) * 10 + digit_value b) * 10 + digit_value c) * 10 + digit_value d) ds in
    absurd (omega (arith, first, grown, small))

counted_bits : (ds : List ℕ) (bits : ℕ) → size_of 999 ds ≡ Some bits → AreBits ds bits
counted_bits [] bits h = absurd (cc)
counted_bits (d ∷ ds) bits h =
    let found : ((is_counting (d ∷ ds) && nat_le (digits_value 10 (d ∷ ds)) 999) ≡ true) × (digits_value 10 (d ∷ ds) ≡ bits) = cond_some _ _ _ h in
    let tests : (is_counting (d ∷ ds) ≡ true) × (nat_le (digits_value 10 (d ∷ ds)) 999 ≡ true) = and_parts _ _ found.0 in
    let both : ((nat_le 49 d && nat_le d 57) ≡ true) × (list_all is_digit ds ≡ true) = and_parts _ _ tests.0 in
    let first = counting_below d both.0 in
    record {
      all = (first.0, digits_below ds both.1);
      some = omega arith;
      few = few_digits (d ∷ ds) tests.0 (leb-true _ _ tests.1);
      lone_zero = λ is_zero. absurd (omega (arith, first.2, is_zero));
    }

pub bits_digits : (ds : List ℕ) (bits : ℕ) → bits_of ds ≡ Some bits → AreBits ds bits
bits_digits ds bits h = elim (cases_Bool (bytes_eq ds (codes "0"))) [
  | inl is_zero ↦ subst (λ (t : List ℕ). AreBits t bits) (sym ((bytes_eq-Decides ds (codes "0")).0 is_zero)) (record {
    all = (omega arith, tt);
    some = omega arith;
    few = omega arith;
    lone_zero = λ here. refl;
  })
  | inr other ↦ counted_bits ds bits (rw other at h)
]

none_from : (o : Option ℕ) → ((bits : ℕ) → ¬ (o ≡ Some bits)) → None ≡ o
none_from None h = refl
none_from (Some bits) h = absurd (h bits refl)

-- digits that write no bits
pub no_bits : (ds : List ℕ) → ((bits : ℕ) → ¬ (AreBits ds bits)) → None ≡ bits_of ds
no_bits ds h = none_from (bits_of ds) (λ bits is. h bits (bits_digits ds bits is))

-- ---- what digits write

all_digits : (ds : List ℕ) → AllDigits 10 ds → list_all is_digit ds ≡ true
all_digits [] h = refl
all_digits (d ∷ ds) h =
    let range = digit_value-other d h.0 in
    and_from _ _ (and_from _ _ (le-leb 48 d range.0) (le-leb d 57 range.1)) (all_digits ds h.1)

small_value : (ds : List ℕ) → AllDigits 10 ds → length ds ≤ 3 → digits_value 10 ds ≤ 999
small_value [] all few = omega arith
small_value (a ∷ []) all few = let below : digits_value 10 (a ∷ []) < 10 = digits_value-lt 10 (a ∷ []) all in omega arith
small_value (a ∷ b ∷ []) all few = let below : digits_value 10 (a ∷ b ∷ []) < 100 = digits_value-lt 10 (a ∷ b ∷ []) all in omega arith
small_value (a ∷ b ∷ c ∷ []) all few =
    let below : digits_value 10 (a ∷ b ∷ c ∷ []) < 1000 = digits_value-lt 10 (a ∷ b ∷ c ∷ []) all in omega arith
small_value (a ∷ b ∷ c ∷ d ∷ ds) all few = absurd (omega arith)

first_counts : (d : ℕ) → digit_value d < 10 → (d == 48) ≡ false → (nat_le 49 d && nat_le d 57) ≡ true
first_counts d small other = grind (arith, nat_tests)

pub bits_written : (ds : List ℕ) → AllDigits 10 ds → 0 < length ds → length ds ≤ 3 → (1 < length ds → ¬ (get_or ds 0 0 ≡ 48))
    → Some (digits_value 10 ds) ≡ bits_of ds
bits_written [] all some few lone = absurd (omega arith)
bits_written (d ∷ []) all some few lone = elim (cases_Bool (d == 48)) [
  | inl is_zero ↦ rw (eqb-true d 48 is_zero) refl
  | inr other ↦ rw (other, first_counts d all.0 other, le-leb _ _ (small_value (d ∷ []) all few)) refl
]
bits_written (d ∷ e ∷ ds) all some few lone = elim (cases_Bool (d == 48)) [
  | inl is_zero ↦ absurd (lone (omega arith) (eqb-true d 48 is_zero))
  | inr other ↦ rw (other, first_counts d all.0 other, all_digits (e ∷ ds) all.1, le-leb _ _ (small_value (d ∷ e ∷ ds) all few)) refl
]
