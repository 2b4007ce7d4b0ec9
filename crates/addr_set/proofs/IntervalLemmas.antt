-- Sorted intervals, as they are merged and searched.
use Rattle.std.proofs.Common.{◌≡◌, ℕ, ◌+◌, ◌-◌, ◌*◌, ◌/◌, ◌^◌, ◌<◌, ◌≤◌, false, ◌||◌, leb, max, List, [], ◌∷◌, ◌++◌, length, get_or, refl, sym, ◌∙◌, inl, inr, arith, length-append}
use Rattle.std.specs.List.{All, AllWithin}
use Rattle.std.proofs.Common.{add-mul, le-leb, eqb, eq-eqb, ne_eqb}
use Rattle.std.proofs.lemmas.Bool.{cases_lt, cases_eq, lt-leb, and_from, and_left, and_right}
use Rattle.std.proofs.lemmas.Bool.Decides.{nat_tests}
use Rattle.std.proofs.lemmas.Grind.{common_steps}
use Rattle.std.proofs.lemmas.List.{get_or_append_left, get_or_default}
use Rattle.std.proofs.lemmas.List.Elements.{All-push}
use Rattle.std.proofs.lemmas.List.Folds.{list_any-append, list_any_none, list_any_at}
use Rattle.std.proofs.lemmas.List.Quantifiers.{all_pairs_push}
use Rattle.std.proofs.Math.Nat.{mul_comm, div-mul-le_self, lt-div-mul-add, div-eq_of_lt-le}
use Rattle.std.proofs.Math.Pow.{shr_lt}
use Rattle.std.proofs.lemmas.Nat.{mul-add-lt, pow-add, pow_pos}
use Rattle.addr_set.specs.declared.intervals.Interval.{Interval}
use Rattle.addr_set.specs.Intervals.{is_in, is_in_any, block_of, AreApart}

abbrev Before : Interval → Interval → Type 0
Before one later = (one.first ≤ later.first) × (one.last + 1 < later.first)

-- two that overlap or touch
abbrev pub both : Interval → Interval → Interval
both last next = record { first = last.first; last = max last.last next.last }

is_in-both : (last next : Interval) (number : ℕ) → last.first ≤ next.first → next.first - 1 ≤ last.last → is_in (both last next) number ≡ (is_in last number || is_in next number)
is_in-both last next number begins touch = grind (arith, nat_tests)

get_or_end : (xs : List Interval) (x d : Interval) → get_or (xs ++ x ∷ []) (length xs) d ≡ x
get_or_end [] x d = refl
get_or_end (y ∷ xs) x d = get_or_end xs x d

All-front : (P : Interval → Type 0) (front : List Interval) (last : Interval) → All P (front ++ last ∷ []) → All P front
All-front P front last all k d below =
    let more : k < length (front ++ last ∷ []) = rw length-append (omega arith) in
    rw (get_or_append_left front (last ∷ []) d k below) at (all k d more)

-- without the last one
AreApart-front : (front : List Interval) (last : Interval) → AreApart (front ++ last ∷ []) → AreApart front
AreApart-front front last apart i j d before within =
    let more : j < length (front ++ last ∷ []) = rw length-append (omega arith) in
    let pair = apart i j d before more in
    rw (get_or_append_left front (last ∷ []) d i (omega arith), get_or_append_left front (last ∷ []) d j within) at pair

-- each of those before the last one
AreApart-last : (front : List Interval) (last : Interval) → AreApart (front ++ last ∷ []) → (k : ℕ) (d : Interval) → k < length front → ((get_or front k d).first ≤ last.first) × ((get_or front k d).last + 1 < last.first)
AreApart-last front last apart k d below =
    let more : length front < length (front ++ last ∷ []) = rw length-append (omega arith) in
    let pair = apart k (length front) d below more in
    rw (get_or_append_left front (last ∷ []) d k below, get_or_end front last d) at pair

AreApart-both : (front : List Interval) (last next : Interval) → AreApart (front ++ last ∷ []) → AreApart (front ++ both last next ∷ [])
AreApart-both front last next apart =
    all_pairs_push Before front (both last next) (AreApart-front front last apart) (AreApart-last front last apart)

AreApart-more : (front : List Interval) (last next : Interval) → AreApart (front ++ last ∷ []) → last.first ≤ next.first → last.last < next.first - 1 → AreApart ((front ++ last ∷ []) ++ next ∷ [])
AreApart-more front last next apart begins gap =
    all_pairs_push Before (front ++ last ∷ []) next apart (λ k d below. at_place k d (omega (arith, length-append front (last ∷ []))))
  where
    at_place : (k : ℕ) (d : Interval) → k ≤ length front → ((get_or (front ++ last ∷ []) k d).first ≤ next.first) × ((get_or (front ++ last ∷ []) k d).last + 1 < next.first)
    at_place k d below =
        elim (cases_lt k (length front)) [
          | inl before ↦
              let earlier = AreApart-last front last apart k d before in
              rw (get_or_append_left front (last ∷ []) d k before) (omega arith)
          | inr after ↦
              let here : k ≡ length front = omega arith in
              rw (here, get_or_end front last d) (omega arith)
        ]

pub is_in_any-push : (front : List Interval) (next : Interval) (number : ℕ) → is_in_any (front ++ next ∷ []) number ≡ (is_in_any front number || is_in next number)
is_in_any-push front next number =
    let one = list_any-append (λ (x : Interval). is_in x number) front (next ∷ []) in
    grind (arith, common_steps)

is_in_any-both : (front : List Interval) (last next : Interval) (number : ℕ) → last.first ≤ next.first → next.first - 1 ≤ last.last → is_in_any (front ++ both last next ∷ []) number ≡ (is_in_any (front ++ last ∷ []) number || is_in next number)
is_in_any-both front last next number begins touch =
    let one = is_in_any-push front (both last next) number in
    let two = is_in_any-push front last number in
    let three = is_in-both last next number begins touch in
    grind (arith, common_steps)

-- an interval that begins no earlier than the others was added
pub record Adds (old : List Interval) (next : Interval) (now : List Interval) : Type 0 where
  pub apart : AreApart now
  pub begins : All (λ x. x.first ≤ next.first) now
  pub same : (number : ℕ) → is_in_any now number ≡ (is_in_any old number || is_in next number)

module _ (front : List Interval) (last next : Interval) (apart : AreApart (front ++ last ∷ [])) (begins : All (λ x. x.first ≤ next.first) (front ++ last ∷ [])) where
  last_begins : last.first ≤ next.first
  last_begins =
      let within : length front < length (front ++ last ∷ []) = rw length-append (omega arith) in
      rw (get_or_end front last last) at (begins (length front) last within)

  pub Adds-both : next.first - 1 ≤ last.last → Adds (front ++ last ∷ []) next (front ++ both last next ∷ [])
  Adds-both touch = record {
    apart = AreApart-both front last next apart;
    begins = All-push (λ x. x.first ≤ next.first) front (both last next) (All-front (λ x. x.first ≤ next.first) front last begins) last_begins;
    same = λ number. is_in_any-both front last next number last_begins touch;
  }

  pub Adds-next : last.last < next.first - 1 → Adds (front ++ last ∷ []) next ((front ++ last ∷ []) ++ next ∷ [])
  Adds-next gap = record {
    apart = AreApart-more front last next apart last_begins gap;
    begins = All-push (λ x. x.first ≤ next.first) (front ++ last ∷ []) next begins (omega arith);
    same = λ number. is_in_any-push (front ++ last ∷ []) next number;
  }

-- no interval has begun
pub has-none : (xs : List Interval) (number : ℕ) → AllWithin (λ x. number < x.first) xs 0 (length xs) → is_in_any xs number ≡ false
has-none xs number after =
    list_any_none (λ x. is_in x number) xs (λ k d below. let later = after k d (omega arith) below in grind (arith, nat_tests))

module _ (xs : List Interval) (number begun : ℕ) (e : Interval) (apart : AreApart xs) (some : 0 < begun) (within : begun ≤ length xs) (before : AllWithin (λ x. x.first ≤ number) xs 0 begun) (after : AllWithin (λ x. number < x.first) xs begun (length xs)) where
  -- none has the number, where the last one that has begun has ended
  not_in : (get_or xs (begun - 1) e).last < number → (k : ℕ) (d : Interval) → k < length xs → is_in (get_or xs k d) number ≡ false
  not_in ended k d below =
      elim (cases_lt k begun) [
        | inr later ↦ let first = after k d later below in grind (arith, nat_tests)
        | inl sooner ↦ elim (cases_lt k (begun - 1)) [
          | inl earlier ↦
              let pair = apart k (begun - 1) d earlier (omega arith) in
              let first = before (begun - 1) d (omega arith) (omega arith) in
              grind (arith, nat_tests)
          | inr here ↦
              let same : k ≡ begun - 1 = omega arith in
              let over : (get_or xs k d).last < number = rw (same, get_or_default xs (begun - 1) d e (omega arith)) ended in
              grind (arith, nat_tests)
        ]
      ]

  -- the last one that has begun decides
  pub has-last : is_in_any xs number ≡ leb number (get_or xs (begun - 1) e).last
  has-last =
      elim (cases_lt (get_or xs (begun - 1) e).last number) [
        | inl ended ↦ list_any_none (λ x. is_in x number) xs (not_in ended) ∙ sym (lt-leb number (get_or xs (begun - 1) e).last ended)
        | inr still ↦
            let first = before (begun - 1) e (omega arith) (omega arith) in
            list_any_at (λ x. is_in x number) xs (begun - 1) e (omega arith) (and_from _ _ (le-leb _ _ first) (le-leb _ _ still))
            ∙ sym (le-leb number (get_or xs (begun - 1) e).last still)
      ]

-- the last number of a block fits 128 bits
pub block_fits : (number last_bits : ℕ) → last_bits < 128 → number < 2 ^ 128 → number / 2 ^ last_bits * 2 ^ last_bits + (2 ^ last_bits - 1) < 2 ^ 128
block_fits number last_bits small fits =
    let top = 128 - last_bits in
    let all : top + last_bits ≡ 128 = omega arith in
    let front = shr_lt top last_bits (rw all fits) in
    let size = pow_pos last_bits in
    let below = mul-add-lt (number / 2 ^ last_bits) (2 ^ last_bits) (2 ^ last_bits - 1) (2 ^ top) front (omega arith) in
    rw (mul_comm (2 ^ last_bits) (2 ^ top), ← pow-add 2 top last_bits, all) at below

-- a number is in a block where its first bits are the same
pub is_in-block_of : (last_bits one number : ℕ) → is_in (block_of last_bits one) number ≡ eqb (number / 2 ^ last_bits) (one / 2 ^ last_bits)
is_in-block_of last_bits one number =
    let size = 2 ^ last_bits in
    let some : 0 < size = pow_pos last_bits in
    let q = one / size in
    let low : number / size * size ≤ number = div-mul-le_self number size in
    let high : number < number / size * size + size = lt-div-mul-add some in
    elim (cases_eq (number / size) q) [
      | inl same ↦
          let at_least : q * size ≤ number = rw same at low in
          let at_most : number < q * size + size = rw same at high in
          and_from _ _ (le-leb _ _ at_least) (le-leb _ _ (omega arith)) ∙ sym (eq-eqb _ _ same)
      | inr other ↦
          elim (cases_lt number (q * size)) [
            | inl under ↦ and_left _ _ (lt-leb _ _ under) ∙ sym (ne_eqb _ _ other)
            | inr from ↦
                elim (cases_lt (q * size + (size - 1)) number) [
                  | inl over ↦ and_right _ _ (lt-leb _ _ over) ∙ sym (ne_eqb _ _ other)
                  | inr upto ↦ absurd (other (div-eq_of_lt-le size from (rw add-mul (omega arith))))
                ]
          ]
    ]
