-- Where dots stand: in a name, a number, an address or a block none is last, or has another behind it.
use Rattle.std.proofs.Common.{◌≡◌, ℕ, ◌^◌, ◌<◌, Bool, true, false, cond, not, ◌&&◌, List, [], ◌∷◌, ◌++◌, length, codes, decimal, inl, inr, refl, sym, ◌∙◌, arith, append_assoc}
use Rattle.std.proofs.lemmas.Bool.{cases_Bool, and_parts, both_ways, false_from_ne_true}
use Rattle.std.proofs.lemmas.Bool.Decides.{nat_tests}
use Rattle.std.proofs.lemmas.Fmt.{decimal_nonempty}
use Rattle.std.specs.Char.{digit_value}
use Rattle.std.specs.List.{list_all}
use Rattle.std.specs.Net.Grammar.{IsDotted, IsGroup, IsGroupsAfter, IsElided, IsColonHex}
use Rattle.edge_base.specs.declared.address.Addr.{Addr}
use Rattle.edge_base.specs.declared.address.Addr.TheVariants as addr
use Rattle.edge_base.specs.Address.{IsAddrText}
use Rattle.edge_base.specs.Token.{is_digit, is_name_start, is_name_byte, is_name}
use Rattle.expr_lexer.proofs.ByteLemmas.{all_by, all_from_digits}
use Rattle.expr_lexer.proofs.StateLemmas.{is_dot, is_rest, dot_starts_no_name, name_is, rest_is}
use Rattle.expr_parser.proofs.NumbersRead.{decimal_digits}

-- no dot is last or has another dot behind it, and behind a dot none is first and some byte follows
abbrev pub is_spaced : Bool → List ℕ → Bool
is_spaced behind_dot [] = not behind_dot
is_spaced behind_dot (byte ∷ text) = cond (is_dot byte) (not behind_dot && is_spaced true text) (is_spaced false text)

-- what comes behind such a text comes behind no dot
pub spaced-append : (behind_dot : Bool) (text more : List ℕ) → is_spaced behind_dot text ≡ true → is_spaced behind_dot (text ++ more) ≡ is_spaced false more
spaced-append true [] more h = absurd (cc)
spaced-append false [] more h = refl
spaced-append true (byte ∷ text) more h = elim (cases_Bool (is_dot byte)) [
  | inl dot ↦ absurd (let bad : false ≡ true = rw dot at h in cc)
  | inr other ↦ rw other (spaced-append false text more (rw other at h))
]
spaced-append false (byte ∷ text) more h = elim (cases_Bool (is_dot byte)) [
  | inl dot ↦ rw dot (spaced-append true text more (rw dot at h))
  | inr other ↦ rw other (spaced-append false text more (rw other at h))
]

spaced-relax : (text : List ℕ) → is_spaced true text ≡ true → is_spaced false text ≡ true
spaced-relax [] h = refl
spaced-relax (byte ∷ text) h = elim (cases_Bool (is_dot byte)) [
  | inl dot ↦ absurd (let bad : false ≡ true = rw dot at h in cc)
  | inr other ↦ rw other (rw other at h)
]

-- a dot may not stand before what comes behind no dot
pub unspaced : (behind_dot : Bool) (front more : List ℕ) → is_spaced true more ≡ false → is_spaced behind_dot (front ++ 46 ∷ more) ≡ false
unspaced true [] more h = refl
unspaced false [] more h = h
unspaced true (byte ∷ front) more h = elim (cases_Bool (is_dot byte)) [
  | inl dot ↦ rw dot refl
  | inr other ↦ rw other (unspaced false front more h)
]
unspaced false (byte ∷ front) more h = elim (cases_Bool (is_dot byte)) [
  | inl dot ↦ rw dot (unspaced true front more h)
  | inr other ↦ rw other (unspaced false front more h)
]

-- ---- texts without dots

abbrev pub is_no_dot : ℕ → Bool
is_no_dot byte = not (is_dot byte)

no_dot_is : (byte : ℕ) → is_no_dot byte ≡ true → is_dot byte ≡ false
no_dot_is byte h = grind (arith, nat_tests)

pub undotted : (text : List ℕ) → list_all is_no_dot text ≡ true → is_spaced false text ≡ true
undotted [] h = refl
undotted (byte ∷ text) h = let both : (is_no_dot byte ≡ true) × (list_all is_no_dot text ≡ true) = and_parts _ _ h in
    rw (no_dot_is byte both.0) (undotted text both.1)

pub undotted_some : (text : List ℕ) → 0 < length text → list_all is_no_dot text ≡ true → is_spaced true text ≡ true
undotted_some [] some h = absurd (omega arith)
undotted_some (byte ∷ text) some h = let both : (is_no_dot byte ≡ true) × (list_all is_no_dot text ≡ true) = and_parts _ _ h in
    rw (no_dot_is byte both.0) (undotted text both.1)

digit_is_no_dot : (byte : ℕ) → is_digit byte ≡ true → is_no_dot byte ≡ true
digit_is_no_dot byte h = grind (arith, nat_tests)

hex_is_no_dot : (byte : ℕ) → digit_value byte < 16 → is_no_dot byte ≡ true
hex_is_no_dot byte h = grind (arith, nat_tests)

pub digits_have_no_dot : (text : List ℕ) → list_all is_digit text ≡ true → list_all is_no_dot text ≡ true
digits_have_no_dot text h = all_by is_digit is_no_dot digit_is_no_dot text h

-- ---- addresses

octet_spaced : (n : ℕ) → n < 256 → is_spaced true (decimal n) ≡ true
octet_spaced n below = let small : n < 2 ^ 64 = omega arith in
    undotted_some (decimal n) (decimal_nonempty n small) (digits_have_no_dot (decimal n) (decimal_digits n small))

four_spaced : (a b c d : List ℕ) → is_spaced true a ≡ true → is_spaced true b ≡ true → is_spaced true c ≡ true → is_spaced true d ≡ true
    → is_spaced true (a ++ 46 ∷ (b ++ 46 ∷ (c ++ 46 ∷ d))) ≡ true
four_spaced a b c d p q r s =
    spaced-append true a (46 ∷ (b ++ 46 ∷ (c ++ 46 ∷ d))) p ∙ spaced-append true b (46 ∷ (c ++ 46 ∷ d)) q ∙ spaced-append true c (46 ∷ d) r ∙ s

dotted_spaced : (text octets : List ℕ) → IsDotted text octets → is_spaced true text ≡ true
dotted_spaced text octets h =
    rw h.spelled (simp append_assoc (four_spaced (decimal h.a) (decimal h.b) (decimal h.c) (decimal h.d)
    (octet_spaced h.a h.fit.0) (octet_spaced h.b h.fit.1) (octet_spaced h.c h.fit.2) (octet_spaced h.d h.fit.3)))

group_spaced : (text : List ℕ) (segment : ℕ) → IsGroup text segment → is_spaced true text ≡ true
group_spaced text segment h = undotted_some text h.0.0.0 (all_from_digits 16 is_no_dot hex_is_no_dot text h.0.0.1)

later_spaced : (ipv4 : Bool) (text segments : List ℕ) → IsGroupsAfter ipv4 (codes ":") text segments → is_spaced false text ≡ true
later_spaced ipv4 text [] h = rw h refl
later_spaced ipv4 text (segment ∷ segments) h = elim h [
  | inl more ↦ rw more.2 (spaced-append false more.0 more.1 (spaced-relax more.0 (group_spaced more.0 segment more.3)) ∙ later_spaced ipv4 more.1 segments more.4)
  | inr last ↦ rw last.3 (spaced-relax last.0 (dotted_spaced last.0 last.1 last.4))
]

first_spaced : (ipv4 : Bool) (text segments : List ℕ) (segment : ℕ) → IsGroupsAfter ipv4 [] text (segment ∷ segments) → is_spaced true text ≡ true
first_spaced ipv4 text segments segment h = elim h [
  | inl more ↦ rw more.2 (spaced-append true more.0 more.1 (group_spaced more.0 segment more.3) ∙ later_spaced ipv4 more.1 segments more.4)
  | inr last ↦ rw last.3 (dotted_spaced last.0 last.1 last.4)
]

groups_spaced : (ipv4 : Bool) (text segments : List ℕ) → IsGroupsAfter ipv4 [] text segments → is_spaced false text ≡ true
groups_spaced ipv4 text [] h = rw h refl
groups_spaced ipv4 text (segment ∷ segments) h = spaced-relax text (first_spaced ipv4 text segments segment h)

full_spaced : (text segments : List ℕ) → IsGroupsAfter true [] text segments → length segments ≡ 8 → is_spaced true text ≡ true
full_spaced text [] h all = absurd (omega arith)
full_spaced text (segment ∷ segments) h all = first_spaced true text segments segment h

around_gap : (text more segments : List ℕ) → IsGroupsAfter false [] text segments → is_spaced false more ≡ true → is_spaced true (text ++ 58 ∷ 58 ∷ more) ≡ true
around_gap text more [] h k = rw h k
around_gap text more (segment ∷ segments) h k = spaced-append true text (58 ∷ 58 ∷ more) (first_spaced false text segments segment h) ∙ k

elided_spaced : (text segments : List ℕ) → IsElided text segments → is_spaced true text ≡ true
elided_spaced text segments h =
    rw (h.spelled, append_assoc h.head_text (codes "::") h.tail_text)
    (around_gap h.head_text h.tail_text h.head h.head_groups (groups_spaced true h.tail_text h.tail h.tail_groups))

colon_hex_spaced : (text segments : List ℕ) → IsColonHex text segments → is_spaced true text ≡ true
colon_hex_spaced text segments (inl full) = full_spaced text segments full.0 full.1
colon_hex_spaced text segments (inr some) = elided_spaced text segments some

pub address_spaced : (text : List ℕ) (a : Addr) → IsAddrText text a → is_spaced true text ≡ true
address_spaced text (addr.V4 n) h = dotted_spaced text h.0 h.1
address_spaced text (addr.V6 n) h = colon_hex_spaced text h.0 h.1

-- ---- names

start_is_no_dot : (byte : ℕ) → is_name_start byte ≡ true → is_dot byte ≡ false
start_is_no_dot byte h = false_from_ne_true (is_dot byte) (λ dot. both_ways _ (dot_starts_no_name byte dot) h)

record NameIsSpaced (text : List ℕ) : Type 0 where
  rest : is_rest text ≡ true → is_spaced false text ≡ true
  name : is_name text ≡ true → is_spaced true text ≡ true

rest_step : (byte : ℕ) (text : List ℕ) → NameIsSpaced text → cond (is_dot byte) (is_name text) (is_name_byte byte && is_rest text) ≡ true → is_spaced false (byte ∷ text) ≡ true
rest_step byte text later h = elim (cases_Bool (is_dot byte)) [
  | inl dot ↦ rw dot (later.name (rw dot at h))
  | inr other ↦ rw other (later.rest (and_parts (is_name_byte byte) (is_rest text) (rw other at h)).1)
]

in_name : (text : List ℕ) → NameIsSpaced text
in_name [] = record { rest = λ h. refl; name = λ h. absurd (cc) }
in_name (byte ∷ text) = record {
  rest = λ h. rest_step byte text (in_name text) (sym (rest_is byte text) ∙ h);
  name = λ h. let both : (is_name_start byte ≡ true) × (is_rest text ≡ true) = and_parts _ _ (sym (name_is byte text) ∙ h) in
      rw (start_is_no_dot byte both.0) ((in_name text).rest both.1);
}

pub name_spaced : (text : List ℕ) → is_name text ≡ true → is_spaced true text ≡ true
name_spaced text h = (in_name text).name h
