-- The bytes of an address text: which they are, how many, and what tells it from names and numbers.
use Rattle.std.proofs.Common.{◌≡◌, ℕ, ◌+◌, ◌*◌, ◌<◌, ◌≤◌, ◌⊎◌, Bool, true, false, cond, ◌==◌, List, [], ◌∷◌, ◌++◌, length, codes, decimal, IsTrue, inl, inr, refl, sym, ◌∙◌, ap, subst, arith, length-append, append_assoc}
use Rattle.std.proofs.lemmas.Bool.{or_left, or_right}
use Rattle.std.proofs.lemmas.Bool.Decides.{nat_tests}
use Rattle.std.proofs.lemmas.Fmt.{decimal_is_IsNumeral, length-decimal-le}
use Rattle.std.proofs.lemmas.List.Folds.{list_all-append, list_any-append}
use Rattle.std.specs.Char.{digit_value}
use Rattle.std.specs.List.{list_all, list_any}
use Rattle.std.specs.Net.Addr.{segments_of}
use Rattle.std.specs.Net.Grammar.{IsDotted, IsGroup, IsGroupsAfter, IsGroups, IsElided, IsColonHex}
use Rattle.edge_base.specs.declared.address.Addr.{Addr}
use Rattle.edge_base.specs.declared.address.Addr.TheVariants as addr
use Rattle.edge_base.specs.Address.{IsAddrText}
use Rattle.edge_base.specs.Token.{is_digit}
use Rattle.expr_lexer.specs.Scan.{is_address_byte}
use Rattle.expr_lexer.proofs.ByteLemmas.{begins_with, begins-append, all_by, begins_from_all, all_from_digits, all_digits}

hex_byte : (byte : ℕ) → digit_value byte < 16 → is_address_byte byte ≡ true
hex_byte byte below = grind (arith, nat_tests)

digit_byte : (byte : ℕ) → is_digit byte ≡ true → is_address_byte byte ≡ true
digit_byte byte digit = rw digit refl

-- an octet in decimal
record Octet (n : ℕ) : Type 0 where
  bytes : list_all is_address_byte (decimal n) ≡ true
  short : length (decimal n) ≤ 3
  first : begins_with is_digit (decimal n) ≡ true

octet : (n : ℕ) → n < 256 → Octet n
octet n below =
    let numeral = (decimal_is_IsNumeral n (omega arith)).0 in
    let digits : list_all is_digit (decimal n) ≡ true = all_digits (decimal n) numeral.1 in
    record {
      bytes = all_by is_digit is_address_byte digit_byte (decimal n) digits;
      short = length-decimal-le 3 n (omega arith) (omega arith) (omega arith);
      first = begins_from_all is_digit (decimal n) numeral.0 digits;
    }

record IsDottedFace (text : List ℕ) : Type 0 where
  bytes : list_all is_address_byte text ≡ true
  short : length text ≤ 15
  first : begins_with is_digit text ≡ true
  dot : list_any (λ byte. byte == 46) text ≡ true

dotted : (text octets : List ℕ) → IsDotted text octets → IsDottedFace text
dotted text octets h =
    let one = octet h.a h.fit.0 in let two = octet h.b h.fit.1 in let three = octet h.c h.fit.2 in let four = octet h.d h.fit.3 in
    subst IsDottedFace (sym h.spelled) record {
      bytes = simp (list_all-append, one.bytes, two.bytes, three.bytes, four.bytes);
      short = simp length-append (omega (arith, one.short, two.short, three.short, four.short));
      first = simp append_assoc (begins-append is_digit (decimal h.a) (46 ∷ (decimal h.b ++ 46 ∷ (decimal h.c ++ 46 ∷ decimal h.d))) one.first);
      dot = simp list_any-append (or_left _ _ (or_right _ _ refl));
    }

-- how many bytes more a V4 text at the end may have
abbrev tail_room : Bool → ℕ
tail_room ipv4 = cond ipv4 5 0

group_bytes : (text : List ℕ) (segment : ℕ) → IsGroup text segment → list_all is_address_byte text ≡ true
group_bytes text segment h = all_from_digits 16 is_address_byte hex_byte text h.0.0.1

groups_bytes : (ipv4 : Bool) (lead text segments : List ℕ) → list_all is_address_byte lead ≡ true → IsGroupsAfter ipv4 lead text segments → list_all is_address_byte text ≡ true
groups_bytes ipv4 lead text [] before h = rw h refl
groups_bytes ipv4 lead text (segment ∷ segments) before h = elim h [
  | inl more ↦ let later : list_all is_address_byte more.1 ≡ true = groups_bytes ipv4 (codes ":") more.1 segments refl more.4 in
      let here : list_all is_address_byte more.0 ≡ true = group_bytes more.0 segment more.3 in
      rw more.2 (simp (list_all-append, before, here, later))
  | inr last ↦ rw last.3 (simp (list_all-append, before, (dotted last.0 last.1 last.4).bytes))
]

two_segments : (text octets : List ℕ) → IsDotted text octets → length (segments_of octets) ≡ 2
two_segments text octets h = rw h.value refl

v4_room : (ipv4 : Bool) → IsTrue ipv4 → tail_room ipv4 ≡ 5
v4_room ipv4 h = rw h refl

groups_length : (ipv4 : Bool) (lead text segments : List ℕ) → IsGroupsAfter ipv4 lead text segments → length text ≤ length lead + 5 * length segments + tail_room ipv4
groups_length ipv4 lead text [] h = rw h (omega arith)
groups_length ipv4 lead text (segment ∷ segments) h = elim h [
  | inl more ↦ let later : length more.1 ≤ 1 + 5 * length segments + tail_room ipv4 = groups_length ipv4 (codes ":") more.1 segments more.4 in
      rw more.2 (simp length-append (omega (arith, later, more.3.1)))
  | inr last ↦ let two : length (segment ∷ segments) ≡ 2 = ap length last.5 ∙ two_segments last.0 last.1 last.4 in
      rw last.3 (simp length-append (omega (arith, two, v4_room ipv4 last.2, (dotted last.0 last.1 last.4).short)))
]

abbrev pub is_colon : ℕ → Bool
is_colon byte = byte == 58

later_has_colon : (ipv4 : Bool) (text segments : List ℕ) (segment : ℕ) → IsGroupsAfter ipv4 (codes ":") text (segment ∷ segments) → list_any is_colon text ≡ true
later_has_colon ipv4 text segments segment h = elim h [
  | inl more ↦ rw more.2 (simp list_any-append refl)
  | inr last ↦ rw last.3 (simp list_any-append refl)
]

groups_have_colon : (ipv4 : Bool) (text segments : List ℕ) (one two three : ℕ) → IsGroupsAfter ipv4 [] text (one ∷ two ∷ three ∷ segments) → list_any is_colon text ≡ true
groups_have_colon ipv4 text segments one two three h = elim h [
  | inl more ↦ rw more.2 (simp list_any-append (or_right _ _ (later_has_colon ipv4 more.1 (three ∷ segments) two more.4)))
  | inr last ↦ let short : length (one ∷ two ∷ three ∷ segments) ≡ 2 = ap length last.5 ∙ two_segments last.0 last.1 last.4 in absurd (omega arith)
]

full_has_colon : (text segments : List ℕ) → IsGroups true text segments → length segments ≡ 8 → list_any is_colon text ≡ true
full_has_colon text [] h all = absurd (omega arith)
full_has_colon text (one ∷ []) h all = absurd (omega arith)
full_has_colon text (one ∷ two ∷ []) h all = absurd (omega arith)
full_has_colon text (one ∷ two ∷ three ∷ segments) h all = groups_have_colon true text segments one two three h

record IsColonFace (text : List ℕ) : Type 0 where
  bytes : list_all is_address_byte text ≡ true
  short : length text ≤ 45
  colon : list_any is_colon text ≡ true

elided : (text segments : List ℕ) → IsElided text segments → IsColonFace text
elided text segments h =
    let head_bytes : list_all is_address_byte h.head_text ≡ true = groups_bytes false [] h.head_text h.head refl h.head_groups in
    let tail_bytes : list_all is_address_byte h.tail_text ≡ true = groups_bytes true [] h.tail_text h.tail refl h.tail_groups in
    let head_short : length h.head_text ≤ 0 + 5 * length h.head + 0 = groups_length false [] h.head_text h.head h.head_groups in
    let tail_short : length h.tail_text ≤ 0 + 5 * length h.tail + 5 = groups_length true [] h.tail_text h.tail h.tail_groups in
    subst IsColonFace (sym h.spelled) record {
      bytes = simp (list_all-append, head_bytes, tail_bytes);
      short = simp length-append (omega (arith, h.room));
      colon = simp list_any-append (or_left _ _ (or_right _ _ refl));
    }

colon_hex : (text segments : List ℕ) → IsColonHex text segments → IsColonFace text
colon_hex text segments h = elim h [
  | inl full ↦ let short : length text ≤ 0 + 5 * length segments + 5 = groups_length true [] text segments full.0 in record {
    bytes = groups_bytes true [] text segments refl full.0;
    short = omega (arith, full.1);
    colon = full_has_colon text segments full.0 full.1;
  }
  | inr some ↦ elided text segments some
]

-- what every address text has
pub record IsAddressFace (text : List ℕ) : Type 0 where
  pub bytes : list_all is_address_byte text ≡ true
  pub short : length text ≤ 45
  pub sign : (list_any is_colon text ≡ true) ⊎ ((begins_with is_digit text ≡ true) × (list_any (λ byte. byte == 46) text ≡ true))

pub address_face : (text : List ℕ) (a : Addr) → IsAddrText text a → IsAddressFace text
address_face text (addr.V4 number) h = let face = dotted text _ h.1 in
    record { bytes = face.bytes; short = omega (arith, face.short); sign = inr (face.first, face.dot) }
address_face text (addr.V6 number) h = let face = colon_hex text _ h.1 in
    record { bytes = face.bytes; short = face.short; sign = inl face.colon }
