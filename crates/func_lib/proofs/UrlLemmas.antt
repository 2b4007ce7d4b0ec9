-- Decoding in one pass is the decoding of escapes in the text with its blanks.
use Rattle.std.proofs.Common.{◌≡◌, ℕ, ◌+◌, ◌*◌, ◌==◌, ◌&&◌, Bool, true, false, cond, List, [], ◌∷◌, map, refl, sym, ap, ap₂, ◌∙◌, arith}
use Rattle.std.proofs.lemmas.Bool.Decides.{nat_tests}
use Rattle.std.specs.Char.{digit_value, is_digit}
use Rattle.percent_encoding.specs.Percent.{percent_decode, is_escape as is_percent_escape}
use Rattle.func_lib.specs.Urls.{unescaped, is_escape, url_decoded}

plus_is : (byte : ℕ) → (byte == 43) ≡ true → byte ≡ 43
plus_is byte h = grind (arith, nat_tests)

digit_at : (b : Bool) (byte : ℕ) → (b ≡ true → byte ≡ 43) → is_digit (cond b 32 byte) 16 ≡ is_digit byte 16
digit_at true byte h = sym (ap (λ x. is_digit x 16) (h refl))
digit_at false byte h = refl

sign_at : (b : Bool) (byte : ℕ) → (b ≡ true → byte ≡ 43) → (cond b 32 byte == 37) ≡ (byte == 37)
sign_at true byte h = sym (ap (λ x. x == 37) (h refl))
sign_at false byte h = refl

kept_at : (b : Bool) (byte : ℕ) → (b ≡ true → byte ≡ 43) → is_digit byte 16 ≡ true → cond b 32 byte ≡ byte
kept_at true byte h digit =
    let no : is_digit 43 16 ≡ true = sym (ap (λ x. is_digit x 16) (h refl)) ∙ digit in
    cc
kept_at false byte h digit = refl

both_digits : (a b c : Bool) → (a && b && c) ≡ true → (b ≡ true) × (c ≡ true)
both_digits true true true h = (refl, refl)
both_digits true true false h = cc
both_digits true false c h = cc
both_digits false b c h = cc

-- a blank for a `+` doesn't change whether three bytes are an escape
same_escape : (byte high low : ℕ) → is_percent_escape (unescaped byte) (unescaped high) (unescaped low) ≡ is_escape byte high low
same_escape byte high low =
    let sign : (unescaped byte == 37) ≡ (byte == 37) = sign_at (byte == 43) byte (plus_is byte) in
    let first : is_digit (unescaped high) 16 ≡ is_digit high 16 = digit_at (high == 43) high (plus_is high) in
    let second : is_digit (unescaped low) 16 ≡ is_digit low 16 = digit_at (low == 43) low (plus_is low) in
    ap (λ a. a && is_digit (unescaped high) 16 && is_digit (unescaped low) 16) sign
    ∙ ap₂ (λ b c. (byte == 37) && b && c) first second

-- nor, in an escape, the byte that it stands for
same_byte : (byte high low : ℕ) → is_escape byte high low ≡ true → 16 * digit_value (unescaped high) + digit_value (unescaped low) ≡ 16 * digit_value high + digit_value low
same_byte byte high low h =
    let digits = both_digits (byte == 37) (is_digit high 16) (is_digit low 16) h in
    ap₂ (λ a b. 16 * digit_value a + digit_value b) (kept_at (high == 43) high (plus_is high) digits.0) (kept_at (low == 43) low (plus_is low) digits.1)

same_step : (p q : Bool) (x y z w : List ℕ) → p ≡ q → (q ≡ true → x ≡ y) → z ≡ w → cond p x z ≡ cond q y w
same_step true true x y z w same first second = first refl
same_step true false x y z w same first second = cc
same_step false true x y z w same first second = cc
same_step false false x y z w same first second = second

pub url_decoded_by_escapes : (text : List ℕ) → percent_decode (map unescaped text) ≡ url_decoded text
unfolding percent_decode url_decoded
url_decoded_by_escapes [] = refl
url_decoded_by_escapes (byte ∷ []) = refl
url_decoded_by_escapes (byte ∷ next ∷ []) = refl
url_decoded_by_escapes (byte ∷ high ∷ low ∷ rest) =
    same_step (is_percent_escape (unescaped byte) (unescaped high) (unescaped low)) (is_escape byte high low) _ _ _ _
    (same_escape byte high low)
    (λ h. ap₂ (λ x xs. x ∷ xs) (same_byte byte high low h) (url_decoded_by_escapes rest))
    (ap (λ xs. unescaped byte ∷ xs) (url_decoded_by_escapes (high ∷ low ∷ rest)))
