-- Each token of the kinds that the scanner reads is read, a reserved word as a name.
use Rattle.std.proofs.Common.{◌≡◌, ℕ, ◌-◌, ◌^◌, Bool, true, false, ◌&&◌, nat_le, ◌==◌, List, [], ◌∷◌, is_some, IsSome, Option, Some, None, codes, bytes_eq, pos, neg_ℤ, inl, inr, refl, sym, ◌∙◌, ap, subst, arith, eqb-true}
use Rattle.std.proofs.lemmas.Bool.{cases_Bool, or_cases, and_parts}
use Rattle.std.proofs.lemmas.Bool.Decides.{nat_tests}
use Rattle.std.proofs.lemmas.Slice.Eq.{bytes_eq-Decides}
use Rattle.std.specs.List.{list_all, list_any}
use Rattle.std.specs.Str.Parse.{digits_value}
use Rattle.edge_base.specs.declared.token.TokenKind.{TokenKind}
use Rattle.edge_base.specs.declared.token.TokenKind.TheVariants as kind
use Rattle.edge_base.specs.Spellings.{spellings_of, reserved_words, symbols}
use Rattle.edge_base.specs.Token.{is_digit, is_name_start, is_name, is_reserved, is_counting, size_of, number_of, quoted_text_of, raw_text_of, list_name_of, is_symbol}
use Rattle.expr_lexer.specs.declared.scanner.State.{State}
use Rattle.expr_lexer.specs.declared.scanner.State.TheVariants as state
use Rattle.expr_lexer.specs.Scan.{kind_from, counting_of, leading_digit_of, with_next}
use Rattle.expr_lexer.proofs.ByteLemmas.{digit_starts_no_name, counted_is_digit, counted_is_not_zero}
use Rattle.expr_lexer.proofs.StateLemmas.{kind_where, is_rest, name_is, rest_is, in_name, in_text, from_marks, is_raw_behind, is_some-map, mark_is_no_quote}
use Rattle.expr_lexer.proofs.KindLemmas.{Shape, is_some-cond, size_is_some, from_counting, from_minus, raw_is, from_dollar, first_of_digit}

rest_has_no_mark : (byte : ℕ) (text : List ℕ) → is_rest (byte ∷ text) ≡ true → (byte == 35) ≡ false
rest_has_no_mark byte text rest = elim (cases_Bool (byte == 35)) [
  | inl mark ↦ let bad : false ≡ true = rw (eqb-true byte 35 mark) at (sym (rest_is byte text) ∙ rest) in absurd (cc)
  | inr other ↦ other
]

rest_has_no_quote : (byte : ℕ) (text : List ℕ) → is_rest (byte ∷ text) ≡ true → (byte == 34) ≡ false
rest_has_no_quote byte text rest = elim (cases_Bool (byte == 34)) [
  | inl quote ↦ let bad : false ≡ true = rw (eqb-true byte 34 quote) at (sym (rest_is byte text) ∙ rest) in absurd (cc)
  | inr other ↦ other
]

leading_counts : (most byte : ℕ) → (byte == 48) ≡ false → leading_digit_of most byte ≡ counting_of most byte
leading_counts most byte other = rw other refl

takes_more : {A : Type 0} (found : Option A) → is_some found ≡ true → kind_where (is_some found) kind.Number ≡ Some kind.Number
takes_more found h = rw h refl

letter_takes_name : (text : List ℕ) → is_rest text ≡ true → kind_from state.Letter text ≡ Some kind.Name
letter_takes_name [] rest = refl
letter_takes_name (byte ∷ text) rest =
    rw (rest_has_no_mark byte text rest, rest_has_no_quote byte text rest) ((in_name (byte ∷ text)).part ∙ rw rest refl)

takes_name : (text : List ℕ) → is_name text ≡ true → kind_from state.Start text ≡ Some kind.Name
takes_name [] h = absurd (cc)
takes_name (byte ∷ text) h = let both : (is_name_start byte ≡ true) × (is_rest text ≡ true) = and_parts _ _ (sym (name_is byte text) ∙ h) in
    elim (cases_Bool (byte == 114)) [
      | inl letter ↦ rw letter (letter_takes_name text both.1)
      | inr other ↦ rw (other, both.0) ((in_name text).part ∙ rw both.1 refl)
    ]

is_lone_zero : (byte : ℕ) (text : List ℕ) → bytes_eq (byte ∷ text) (codes "0") ≡ true → kind_from state.Start (byte ∷ text) ≡ Some kind.Number
is_lone_zero byte text h = let P : List ℕ → Type 0 = λ t. kind_from state.Start t ≡ Some kind.Number in
    subst P (sym ((bytes_eq-Decides (byte ∷ text) (codes "0")).0 h)) refl

digit_is_no_letter : (byte : ℕ) → is_digit byte ≡ true → (byte == 114) ≡ false
digit_is_no_letter byte h = grind (arith, nat_tests)

takes_counted : (byte : ℕ) (text : List ℕ) → is_some (size_of (2 ^ 63 - 1) (byte ∷ text)) ≡ true → kind_from state.Start (byte ∷ text) ≡ Some kind.Number
takes_counted byte text h =
    let counted : (is_counting (byte ∷ text) ≡ true) × (nat_le (digits_value 10 (byte ∷ text)) (2 ^ 63 - 1) ≡ true)
    = and_parts _ _ (sym (size_is_some (2 ^ 63 - 1) (byte ∷ text)) ∙ h) in
    let first : (nat_le 49 byte && nat_le byte 57) ≡ true = (and_parts _ _ counted.0).0 in
    let digit : is_digit byte ≡ true = counted_is_digit byte first in
    ap (λ (read : Option State). with_next read None (λ next. kind_from next text))
    (first_of_digit byte (digit_is_no_letter byte digit) (digit_starts_no_name byte digit) digit ∙ leading_counts (2 ^ 63 - 1) byte (counted_is_not_zero byte first))
    ∙ from_counting (2 ^ 63 - 1) byte text (omega arith) ∙ rw h refl

takes_number : (text : List ℕ) → IsSome (number_of text) → kind_from state.Start text ≡ Some kind.Number
takes_number [] h = absurd (cc)
takes_number (byte ∷ text) h = elim (cases_Bool (bytes_eq (byte ∷ text) (codes "0"))) [
  | inl lone ↦ is_lone_zero byte text lone
  | inr other ↦ elim (cases_Bool (byte == 45)) [
    | inl minus ↦ rw (eqb-true byte 45 minus) (from_minus text ∙ takes_more (size_of (2 ^ 63) text)
        (sym (is_some-map (λ (n : ℕ). neg_ℤ (pos n)) (size_of (2 ^ 63) text)) ∙ rw (other, minus) at h))
    | inr plain ↦ takes_counted byte text (sym (is_some-map pos (size_of (2 ^ 63 - 1) (byte ∷ text))) ∙ rw (other, plain) at h)
  ]
]

takes_text : (text : List ℕ) → IsSome (quoted_text_of text) → kind_from state.Start text ≡ Some kind.Text
takes_text [] h = absurd (cc)
takes_text (byte ∷ text) h = elim (cases_Bool (byte == 34)) [
  | inl quote ↦ rw (eqb-true byte 34 quote) ((in_text text).quoted ∙ rw (rw quote at h) refl)
  | inr other ↦ let none : false ≡ true = rw other at h in absurd (cc)
]

marks_take : (text : List ℕ) → is_raw_behind 0 text ≡ true → kind_from (state.Marks 0) text ≡ Some kind.RawText
marks_take text h = from_marks 0 text (omega arith) ∙ ap (λ (test : Bool). kind_where test kind.RawText) h

letter_takes_raw : (text : List ℕ) → is_raw_behind 0 text ≡ true → kind_from state.Letter text ≡ Some kind.RawText
letter_takes_raw [] h = absurd (cc)
letter_takes_raw (byte ∷ text) h = elim (cases_Bool (byte == 35)) [
  | inl mark ↦ rw mark (rw (mark, mark_is_no_quote byte mark) at (marks_take (byte ∷ text) h))
  | inr other ↦ elim (cases_Bool (byte == 34)) [
    | inl quote ↦ rw (other, quote) (rw (other, quote) at (marks_take (byte ∷ text) h))
    | inr none ↦ let bad : false ≡ true = rw (other, none) at h in absurd (cc)
  ]
]

takes_raw : (text : List ℕ) → IsSome (raw_text_of text) → kind_from state.Start text ≡ Some kind.RawText
takes_raw [] h = absurd (cc)
takes_raw (byte ∷ text) h = elim (cases_Bool (byte == 114)) [
  | inl letter ↦ rw letter (letter_takes_raw text (sym (raw_is text) ∙ rw (eqb-true byte 114 letter) at h))
  | inr other ↦ let none : false ≡ true = rw other at h in absurd (cc)
]

takes_list_name : (text : List ℕ) → IsSome (list_name_of text) → kind_from state.Start text ≡ Some kind.ListName
takes_list_name [] h = absurd (cc)
takes_list_name (byte ∷ text) h = elim (cases_Bool (byte == 36)) [
  | inl dollar ↦ rw (eqb-true byte 36 dollar) (from_dollar text ∙ rw (sym (is_some-cond _ text) ∙ rw dollar at h) refl)
  | inr other ↦ let none : false ≡ true = rw other at h in absurd (cc)
]

abbrev EveryOne : (List ℕ → Type 0) → List (List ℕ) → Type 0
EveryOne P [] = Unit {0}
EveryOne P (word ∷ words) = P word × EveryOne P words

-- what holds of each word holds of a text that is one of them
one_of : (P : List ℕ → Type 0) (text : List ℕ) (words : List (List ℕ)) → list_any (bytes_eq text) words ≡ true → EveryOne P words → P text
one_of P text [] h each = absurd (cc)
one_of P text (word ∷ words) h each = elim (or_cases _ _ h) [
  | inl same ↦ subst P (sym ((bytes_eq-Decides text word).0 same)) each.0
  | inr later ↦ one_of P text words later each.1
]

-- the same of what a test says
pub one_passes : (test : List ℕ → Bool) (text : List ℕ) (words : List (List ℕ)) → list_any (bytes_eq text) words ≡ true → list_all test words ≡ true → test text ≡ true
one_passes test text [] h all = absurd (cc)
one_passes test text (word ∷ words) h all = let both : (test word ≡ true) × (list_all test words ≡ true) = and_parts _ _ all in elim (or_cases _ _ h) [
  | inl same ↦ ap test ((bytes_eq-Decides text word).0 same) ∙ both.0
  | inr later ↦ one_passes test text words later both.1
]

takes_symbol : (text : List ℕ) → is_symbol text ≡ true → kind_from state.Start text ≡ Some kind.Symbol
takes_symbol text h = one_of (λ (t : List ℕ). kind_from state.Start t ≡ Some kind.Symbol) text (spellings_of symbols) h
    (refl, (refl, (refl, (refl, (refl, (refl, (refl, (refl, (refl, (refl, (refl, (refl, (refl, (refl, (refl, (refl, (refl, (refl, (refl, (refl, tt))))))))))))))))))))

pub reserved_is_name : (text : List ℕ) → is_reserved text ≡ true → is_name text ≡ true
reserved_is_name text h = one_passes is_name text (spellings_of reserved_words) h refl

pub scan_takes : (text : List ℕ) (token_kind : TokenKind) → Shape token_kind text → kind_from state.Start text ≡ Some token_kind
scan_takes text kind.Name h = takes_name text h
scan_takes text kind.Reserved h = absurd h
scan_takes text kind.Number h = takes_number text h
scan_takes text kind.Address h = absurd h
scan_takes text kind.Block h = absurd h
scan_takes text kind.Text h = takes_text text h
scan_takes text kind.RawText h = takes_raw text h
scan_takes text kind.ListName h = takes_list_name text h
scan_takes text kind.Symbol h = takes_symbol text h
