-- A text is a token of one kind at most, is not empty then, and begins with no blank.
use Rattle.std.proofs.Common.{◌≡◌, ℕ, ◌-◌, ◌^◌, ◌⊎◌, Bool, true, false, cond, not, ◌&&◌, ◌||◌, ◌==◌, List, [], ◌∷◌, ◌++◌, Option, Some, None, is_some, IsSome, codes, bytes_eq, pos, neg_ℤ, inl, inr, refl, sym, ◌∙◌, ap, subst, arith, eqb-true}
use Rattle.std.proofs.lemmas.Bool.{cases_Bool, and_parts, and_from, or_left, or_right, or_cases, both_ways, not-true, true_from_ne_false}
use Rattle.std.proofs.lemmas.Bool.Decides.{nat_tests}
use Rattle.std.proofs.lemmas.List.Folds.{list_all-append, list_any-append}
use Rattle.std.proofs.lemmas.Slice.Eq.{bytes_eq-Decides}
use Rattle.std.specs.List.{list_all, list_any, before_first, after_first}
use Rattle.edge_base.specs.declared.address.Addr.{Addr}
use Rattle.edge_base.specs.declared.token.TokenKind.{TokenKind}
use Rattle.edge_base.specs.declared.token.TokenKind.TheVariants as kind
use Rattle.edge_base.specs.Address.{IsAddrText}
use Rattle.edge_base.specs.Spellings.{spellings_of, symbols}
use Rattle.edge_base.specs.Token.{is_blank_byte, is_digit, is_name_start, is_name_byte, is_name, size_of, number_of, quoted_text_of, raw_text_of, list_name_of, is_symbol, IsBlockText, IsTokenOf}
use Rattle.expr_lexer.specs.declared.scanner.State.{State}
use Rattle.expr_lexer.specs.Scan.{kind_from, with_next, first_of, is_address_byte}
use Rattle.expr_lexer.specs.Fronts.{is_scanned, kind_of_name}
use Rattle.expr_lexer.proofs.ByteLemmas.{case_at, begins_with, begins-append, begins_apart, all_by, digit_starts_no_name}
use Rattle.expr_lexer.proofs.StateLemmas.{is_rest, name_is, rest_is, is_dot, is_some-map}
use Rattle.expr_lexer.proofs.KindLemmas.{Shape, scan_gives, size_digits}
use Rattle.expr_lexer.proofs.TakenLemmas.{one_passes}
use Rattle.expr_lexer.proofs.LongestLemmas.{shape_of, token_is_read}
use Rattle.expr_lexer.proofs.AddressLemmas.{IsAddressFace, is_colon, address_face}
use Rattle.edge_base.proofs.BlockLemmas.{is_slash, block_splits}

-- a byte that addresses and blocks have, and no other token that begins as they may
abbrev is_sign : ℕ → Bool
is_sign byte = byte == 58 || byte == 47

-- what tells an address or a block from the other tokens
record IsUnscanned (text : List ℕ) : Type 0 where
  first : begins_with is_address_byte text ≡ true
  sign : (list_any is_sign text ≡ true) ⊎ ((begins_with is_digit text ≡ true) × (list_any is_dot text ≡ true))

-- no byte of the one test is one of the other
clash : (some other : ℕ → Bool) → ((byte : ℕ) → some byte ≡ true → other byte ≡ false) → (text : List ℕ) → list_all some text ≡ true → list_any other text ≡ true → ⊥
clash some other apart [] h k = cc
clash some other apart (byte ∷ text) h k = let both : (some byte ≡ true) × (list_all some text ≡ true) = and_parts _ _ h in
    elim (or_cases _ _ k) [ inl here ↦ both_ways _ (apart byte both.0) here | inr later ↦ clash some other apart text both.1 later ]

-- ---- names

record HasNameBytes (text : List ℕ) : Type 0 where
  rest : is_rest text ≡ true → list_all (λ byte. is_name_byte byte || byte == 46) text ≡ true
  name : is_name text ≡ true → list_all (λ byte. is_name_byte byte || byte == 46) text ≡ true

start_is_name_byte : (byte : ℕ) → is_name_start byte ≡ true → (is_name_byte byte || byte == 46) ≡ true
start_is_name_byte byte h = rw h refl

rest_step : (byte : ℕ) (text : List ℕ) → HasNameBytes text → cond (is_dot byte) (is_name text) (is_name_byte byte && is_rest text) ≡ true
    → ((is_name_byte byte || byte == 46) && list_all (λ byte. is_name_byte byte || byte == 46) text) ≡ true
rest_step byte text later h = elim (cases_Bool (is_dot byte)) [
  | inl dot ↦ and_from _ _ (or_right _ _ dot) (later.name (rw dot at h))
  | inr other ↦ let both : (is_name_byte byte ≡ true) × (is_rest text ≡ true) = and_parts _ _ (rw other at h) in
      and_from _ _ (or_left _ _ both.0) (later.rest both.1)
]

name_bytes : (text : List ℕ) → HasNameBytes text
name_bytes [] = record { rest = λ _. refl; name = λ _. refl }
name_bytes (byte ∷ text) = record {
  rest = λ h. rest_step byte text (name_bytes text) (sym (rest_is byte text) ∙ h);
  name = λ h. let both : (is_name_start byte ≡ true) × (is_rest text ≡ true) = and_parts _ _ (sym (name_is byte text) ∙ h) in
      and_from _ _ (start_is_name_byte byte both.0) ((name_bytes text).rest both.1);
}

name_byte_is_no_sign : (byte : ℕ) → (is_name_byte byte || byte == 46) ≡ true → is_sign byte ≡ false
name_byte_is_no_sign byte h = grind (arith, nat_tests)

name_begins_no_digit : (text : List ℕ) → is_name text ≡ true → begins_with is_digit text ≡ true → ⊥
name_begins_no_digit [] h digit = cc
name_begins_no_digit (byte ∷ text) h digit = let start : is_name_start byte ≡ true = (and_parts _ _ (sym (name_is byte text) ∙ h)).0 in
    both_ways _ (digit_starts_no_name byte digit) start

-- ---- numbers

abbrev pub is_number_byte : ℕ → Bool
is_number_byte byte = is_digit byte || byte == 45

size_bytes : (most : ℕ) (text : List ℕ) → is_some (size_of most text) ≡ true → list_all is_number_byte text ≡ true
size_bytes most text h = all_by is_digit is_number_byte (λ byte digit. or_left (is_digit byte) (byte == 45) digit) text (size_digits most text h)

pub number_bytes : (text : List ℕ) → IsSome (number_of text) → list_all is_number_byte text ≡ true
number_bytes [] h = absurd (cc)
number_bytes (byte ∷ text) h = elim (cases_Bool (bytes_eq (byte ∷ text) (codes "0"))) [
  | inl lone ↦ let P : List ℕ → Type 0 = λ t. list_all is_number_byte t ≡ true in subst P (sym ((bytes_eq-Decides (byte ∷ text) (codes "0")).0 lone)) refl
  | inr other ↦ elim (cases_Bool (byte == 45)) [
    | inl minus ↦ and_from _ _ (or_right (is_digit byte) (byte == 45) minus)
        (size_bytes (2 ^ 63) text (sym (is_some-map (λ (n : ℕ). neg_ℤ (pos n)) (size_of (2 ^ 63) text)) ∙ rw (other, minus) at h))
    | inr plain ↦ size_bytes (2 ^ 63 - 1) (byte ∷ text) (sym (is_some-map pos (size_of (2 ^ 63 - 1) (byte ∷ text))) ∙ rw (other, plain) at h)
  ]
]

number_byte_is_no_sign : (byte : ℕ) → is_number_byte byte ≡ true → is_sign byte ≡ false
number_byte_is_no_sign byte h = grind (arith, nat_tests)

pub number_byte_is_no_dot : (byte : ℕ) → is_number_byte byte ≡ true → is_dot byte ≡ false
number_byte_is_no_dot byte h = grind (arith, nat_tests)

-- ---- the other kinds, by their first byte

pub text_begins : (text : List ℕ) → IsSome (quoted_text_of text) → begins_with (λ byte. byte == 34) text ≡ true
text_begins [] h = absurd (cc)
text_begins (byte ∷ text) h = true_from_ne_false (byte == 34) (λ other. let bad : false ≡ true = rw other at h in cc)

pub raw_begins : (text : List ℕ) → IsSome (raw_text_of text) → begins_with (λ byte. byte == 114) text ≡ true
raw_begins [] h = absurd (cc)
raw_begins (byte ∷ text) h = true_from_ne_false (byte == 114) (λ other. let bad : false ≡ true = rw other at h in cc)

pub list_name_begins : (text : List ℕ) → IsSome (list_name_of text) → begins_with (λ byte. byte == 36) text ≡ true
list_name_begins [] h = absurd (cc)
list_name_begins (byte ∷ text) h = true_from_ne_false (byte == 36) (λ other. let bad : false ≡ true = rw other at h in cc)

symbol_has_no_sign : (text : List ℕ) → is_symbol text ≡ true → list_any is_sign text ≡ false
symbol_has_no_sign text h = not-true _ (one_passes (λ (t : List ℕ). not (list_any is_sign t)) text (spellings_of symbols) h refl)

symbol_begins_with_no_digit : (text : List ℕ) → is_symbol text ≡ true → begins_with is_digit text ≡ false
symbol_begins_with_no_digit text h = not-true _ (one_passes (λ (t : List ℕ). not (begins_with is_digit t)) text (spellings_of symbols) h refl)

unscanned_is_unread : (token_kind : TokenKind) (text : List ℕ) → IsUnscanned text → Shape token_kind text → ⊥
unscanned_is_unread kind.Name text h shape = elim h.sign [
  | inl sign ↦ clash _ is_sign name_byte_is_no_sign text ((name_bytes text).name shape) sign
  | inr dotted ↦ name_begins_no_digit text shape dotted.0
]
unscanned_is_unread kind.Reserved text h shape = shape
unscanned_is_unread kind.Number text h shape = elim h.sign [
  | inl sign ↦ clash _ is_sign number_byte_is_no_sign text (number_bytes text shape) sign
  | inr dotted ↦ clash _ is_dot number_byte_is_no_dot text (number_bytes text shape) dotted.1
]
unscanned_is_unread kind.Address text h shape = shape
unscanned_is_unread kind.Block text h shape = shape
unscanned_is_unread kind.Text text h shape = begins_apart is_address_byte 34 text refl (text_begins text shape) h.first
unscanned_is_unread kind.RawText text h shape = begins_apart is_address_byte 114 text refl (raw_begins text shape) h.first
unscanned_is_unread kind.ListName text h shape = begins_apart is_address_byte 36 text refl (list_name_begins text shape) h.first
unscanned_is_unread kind.Symbol text h shape = elim h.sign [
  | inl sign ↦ both_ways _ (symbol_has_no_sign text shape) sign
  | inr dotted ↦ both_ways _ (symbol_begins_with_no_digit text shape) dotted.0
]

-- ---- addresses and blocks

colon_is_sign : (text : List ℕ) → list_any is_colon text ≡ true → list_any is_sign text ≡ true
colon_is_sign [] h = h
colon_is_sign (byte ∷ text) h = elim (or_cases (is_colon byte) (list_any is_colon text) h) [
  | inl here ↦ or_left (is_sign byte) (list_any is_sign text) (or_left (is_colon byte) (is_slash byte) here)
  | inr later ↦ or_right (is_sign byte) (list_any is_sign text) (colon_is_sign text later)
]

address_begins : (text : List ℕ) → list_all is_address_byte text ≡ true
    → (list_any is_colon text ≡ true) ⊎ ((begins_with is_digit text ≡ true) × (list_any is_dot text ≡ true)) → begins_with is_address_byte text ≡ true
address_begins [] bytes sign = elim sign [ inl colon ↦ absurd (cc) | inr dotted ↦ dotted.0 ]
address_begins (byte ∷ text) bytes sign = (and_parts _ _ bytes).0

address_is_unscanned : (text : List ℕ) (a : Addr) → IsAddrText text a → IsUnscanned text
address_is_unscanned text a h = let face : IsAddressFace text = address_face text a h in record {
  first = address_begins text face.bytes face.sign;
  sign = elim face.sign [ inl colon ↦ inl (colon_is_sign text colon) | inr dotted ↦ inr dotted ];
}

block_is_unscanned : (text : List ℕ) (a : Addr) (bits : ℕ) → IsBlockText text a bits → IsUnscanned text
block_is_unscanned text a bits h = subst IsUnscanned (sym (block_splits text bits h.1)) record {
  first = begins-append is_address_byte (before_first is_slash text) (47 ∷ after_first is_slash text) (address_is_unscanned (before_first is_slash text) a h.0).first;
  sign = inl (list_any-append is_sign (before_first is_slash text) (47 ∷ after_first is_slash text) ∙ or_right _ _ refl);
}

block_is_no_address : (text : List ℕ) (a b : Addr) (bits : ℕ) → IsBlockText text a bits → IsAddrText text b → ⊥
block_is_no_address text a b bits h k =
    let bytes : list_all is_address_byte (before_first is_slash text ++ 47 ∷ after_first is_slash text) ≡ true
    = ap (list_all is_address_byte) (sym (block_splits text bits h.1)) ∙ (address_face text b k).bytes in
    let parts : (list_all is_address_byte (before_first is_slash text) ≡ true) × (list_all is_address_byte (47 ∷ after_first is_slash text) ≡ true)
    = and_parts _ _ (sym (list_all-append is_address_byte (before_first is_slash text) (47 ∷ after_first is_slash text)) ∙ bytes) in
    let bad : false ≡ true = parts.1 in cc

-- what holds of the kinds that the scanner does not read
pub unscanned_cases : (P : TokenKind → Type 0) (token_kind : TokenKind) → is_scanned token_kind ≡ false → P kind.Address → P kind.Block → P token_kind
unscanned_cases P kind.Address among address block = address
unscanned_cases P kind.Block among address block = block
unscanned_cases P kind.Name among address block = absurd (cc)
unscanned_cases P kind.Reserved among address block = absurd (cc)
unscanned_cases P kind.Number among address block = absurd (cc)
unscanned_cases P kind.Text among address block = absurd (cc)
unscanned_cases P kind.RawText among address block = absurd (cc)
unscanned_cases P kind.ListName among address block = absurd (cc)
unscanned_cases P kind.Symbol among address block = absurd (cc)

token_is_unscanned : (token_kind : TokenKind) (text : List ℕ) → is_scanned token_kind ≡ false → IsTokenOf token_kind text → IsUnscanned text
token_is_unscanned token_kind text among = unscanned_cases (λ (k : TokenKind). IsTokenOf k text → IsUnscanned text) token_kind among
    (λ h. address_is_unscanned text h.0 h.1)
    (λ h. block_is_unscanned text h.0 h.1 h.2)

-- ---- one kind at most

-- the kind is what the scanner's kind and the reserved words give
kind_is : (token_kind : TokenKind) (text : List ℕ) → IsTokenOf token_kind text → token_kind ≡ kind_of_name (shape_of token_kind) text
kind_is kind.Name text h = rw (not-true _ h.1) refl
kind_is kind.Reserved text h = rw h refl
kind_is kind.Number text h = refl
kind_is kind.Address text h = refl
kind_is kind.Block text h = refl
kind_is kind.Text text h = refl
kind_is kind.RawText text h = refl
kind_is kind.ListName text h = refl
kind_is kind.Symbol text h = refl

same_kind_of : (a b : TokenKind) → ◌≡◌ {A = Option TokenKind} (Some a) (Some b) → a ≡ b
same_kind_of a b h = cc

both_scanned : (text : List ℕ) (one other : TokenKind) → is_scanned one ≡ true → is_scanned other ≡ true → IsTokenOf one text → IsTokenOf other text → one ≡ other
both_scanned text one other here there h k =
    kind_is one text h ∙ ap (λ (shape : TokenKind). kind_of_name shape text) (same_kind_of _ _ (sym (token_is_read one text here h) ∙ token_is_read other text there k))
    ∙ sym (kind_is other text k)

one_scanned : (text : List ℕ) (one other : TokenKind) → is_scanned one ≡ true → is_scanned other ≡ false → IsTokenOf one text → IsTokenOf other text → ⊥
one_scanned text one other here there h k =
    unscanned_is_unread (shape_of one) text (token_is_unscanned other text there k) (scan_gives text (shape_of one) (token_is_read one text here h))

two_kinds : (text : List ℕ) → IsTokenOf kind.Block text → IsTokenOf kind.Address text → ⊥
two_kinds text h k = block_is_no_address text h.0 k.0 h.1 h.2 k.1

none_scanned : (text : List ℕ) (one other : TokenKind) → is_scanned one ≡ false → is_scanned other ≡ false → IsTokenOf one text → IsTokenOf other text → one ≡ other
none_scanned text one other here there = unscanned_cases (λ (k : TokenKind). IsTokenOf k text → IsTokenOf other text → k ≡ other) one here
    (λ h. unscanned_cases (λ (k : TokenKind). IsTokenOf k text → kind.Address ≡ k) other there (λ k. refl) (λ k. absurd (two_kinds text k h)))
    (λ h. unscanned_cases (λ (k : TokenKind). IsTokenOf k text → kind.Block ≡ k) other there (λ k. absurd (two_kinds text h k)) (λ k. refl))

pub kinds_apart : (text : List ℕ) (one other : TokenKind) → IsTokenOf one text → IsTokenOf other text → one ≡ other
kinds_apart text one other h k = elim (cases_Bool (is_scanned one)) [
  | inl here ↦ elim (cases_Bool (is_scanned other)) [
    | inl there ↦ both_scanned text one other here there h k
    | inr there ↦ absurd (one_scanned text one other here there h k)
  ]
  | inr here ↦ elim (cases_Bool (is_scanned other)) [
    | inl there ↦ absurd (one_scanned text other one there here k h)
    | inr there ↦ none_scanned text one other here there h k
  ]
]

-- ---- no token is empty, and none begins with a blank

pub empty_is_no_token : (token_kind : TokenKind) → ¬ (IsTokenOf token_kind [])
empty_is_no_token token_kind h = elim (cases_Bool (is_scanned token_kind)) [
  | inl here ↦ let bad : None ≡ Some (shape_of token_kind) = token_is_read token_kind [] here h in absurd (cc)
  | inr there ↦ let bad : false ≡ true = (token_is_unscanned token_kind [] there h).first in absurd (cc)
]

blank_begins_nothing : (byte : ℕ) → is_blank_byte byte ≡ true → first_of byte ≡ None
blank_begins_nothing byte h = let P : ℕ → Type 0 = λ b. first_of b ≡ None in
    case_at P byte 10 _ h (λ h. case_at P byte 13 _ h (λ h. case_at P byte 9 _ h (λ h. subst P (sym (eqb-true byte 32 h)) refl) refl) refl) refl

address_byte_is_no_blank : (byte : ℕ) → is_address_byte byte ≡ true → is_blank_byte byte ≡ true → ⊥
address_byte_is_no_blank byte h blank = grind (arith, nat_tests)

pub token_begins_with_no_blank : (token_kind : TokenKind) (byte : ℕ) (text : List ℕ) → IsTokenOf token_kind (byte ∷ text) → is_blank_byte byte ≡ true → ⊥
token_begins_with_no_blank token_kind byte text h blank = elim (cases_Bool (is_scanned token_kind)) [
  | inl here ↦ let bad : None ≡ Some (shape_of token_kind)
      = ap (λ (read : Option State). with_next read None (λ next. kind_from next text)) (sym (blank_begins_nothing byte blank))
      ∙ token_is_read token_kind (byte ∷ text) here h in absurd (cc)
  | inr there ↦ address_byte_is_no_blank byte (token_is_unscanned token_kind (byte ∷ text) there h).first blank
]
