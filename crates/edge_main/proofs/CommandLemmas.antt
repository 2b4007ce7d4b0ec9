-- The numbers that words are.
use Rattle.std.proofs.Common.{◌≡◌, ◌<◌, ◌≤◌, ◌^◌, ℕ, Bool, true, false, ◌&&◌, nat_le, cond, List, decimal, Option, Some, None, bytes_eq, Result, Ok, inl, inr, refl, sym, ap, subst, ◌∙◌, arith}
use Rattle.std.proofs.lemmas.Bool.{cases_Bool}
use Rattle.std.proofs.lemmas.Bool.Decides.{nat_tests}
use Rattle.std.proofs.lemmas.Fmt.{decimal_is_IsNumeral, parse-decimal}
use Rattle.std.proofs.lemmas.Result.{OkIff-at_ok}
use Rattle.std.proofs.lemmas.Slice.Eq.{bytes_eq-Decides}
use Rattle.std.specs.Str.Parse.{ParsesUnsigned, digits_value}
use Rattle.edge_main.specs.declared.commands.Command.{Command}
use Rattle.edge_main.specs.Commands.{number_of}

pub false-not-true : ¬ (false ≡ true)
false-not-true is = absurd cc

-- ---- numbers

-- what a word is where it has this value
abbrev valued_as : ℕ → List ℕ → ℕ → Option ℕ
valued_as most word value = cond (bytes_eq word (decimal value) && nat_le value most) (Some value) None

pub number_read : {E : Type 0} (most : ℕ) (word : List ℕ) (r : Result ℕ E) (n : ℕ) → ParsesUnsigned 64 10 word r → r ≡ Ok n
    → bytes_eq word (decimal n) ≡ true → nat_le n most ≡ true → Some n ≡ number_of most word
number_read {E} most word r n parses is written low =
    let (good, value) = OkIff-at_ok r _ _ n parses is in
    let fits : n < 2 ^ 64 = omega (arith, value, good.1) in
    let same : word ≡ decimal n = (bytes_eq-Decides word (decimal n)).0 written in
    let valued : digits_value 10 word ≡ n = ap (digits_value 10) same ∙ (decimal_is_IsNumeral n fits).1 in
    let read : valued_as most word n ≡ Some n = rw (written, low) refl in
    sym (ap (valued_as most word) valued ∙ read)

pub both_true : (a b : Bool) → (a && b) ≡ true → (a ≡ true) × (b ≡ true)
both_true true true is = (refl, refl)
both_true true false is = absurd cc
both_true false b is = absurd cc

pub number_unread : {E : Type 0} (most : ℕ) (word : List ℕ) (r : Result ℕ E) → most < 2 ^ 64 → ParsesUnsigned 64 10 word r
    → ((n : ℕ) → r ≡ Ok n → (bytes_eq word (decimal n) && nat_le n most) ≡ false) → None ≡ number_of most word
number_unread {E} most word r fits parses other =
    let value = digits_value 10 word in
    elim (cases_Bool (bytes_eq word (decimal value) && nat_le value most)) [
      | inl is ↦
          let (written, low) = both_true (bytes_eq word (decimal value)) (nat_le value most) is in
          let below : value ≤ most = grind (arith, nat_tests, low) in
          let small : value < 2 ^ 64 = omega (arith, below, fits) in
          let same = parse-decimal 64 value word r small small ((bytes_eq-Decides word (decimal value)).0 written) parses in
          let never : true ≡ false = sym is ∙ other value same in
          absurd cc
      | inr is ↦ rw is refl
    ]

-- a number that isn't taken
pub number_other : {E : Type 0} (most : ℕ) (word : List ℕ) (r : Result ℕ E) (n : ℕ) → most < 2 ^ 64 → ParsesUnsigned 64 10 word r
    → r ≡ Ok n → (bytes_eq word (decimal n) && nat_le n most) ≡ false → None ≡ number_of most word
number_other {E} most word r n fits parses is other =
    number_unread most word r fits parses
    (λ m same. let oks = sym is ∙ same in let one : n ≡ m = cc in subst (λ (k : ℕ). (bytes_eq word (decimal k) && nat_le k most) ≡ false) one other)

pub not_written : (a b : Bool) → a ≡ false → (a && b) ≡ false
not_written a b is = rw is refl

pub not_low : (a b : Bool) → b ≡ false → (a && b) ≡ false
not_low true b is = is
not_low false b is = refl
