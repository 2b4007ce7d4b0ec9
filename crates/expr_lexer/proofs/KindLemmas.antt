-- What the scanner reads from the start is a token of its kind.
use Rattle.std.proofs.Common.{◌≡◌, ℕ, ◌+◌, ◌-◌, ◌*◌, ◌^◌, ◌≤◌, Bool, true, false, cond, not, ◌&&◌, nat_le, ◌==◌, List, [], ◌∷◌, length, slice_index, is_some, IsSome, Option, Some, None, pos, neg_ℤ, inl, inr, refl, sym, ◌∙◌, ap, subst, arith, zero-add, eqb-true, leb-true}
use Rattle.std.proofs.lemmas.Bool.{cases_Bool, and_parts}
use Rattle.std.proofs.lemmas.Bool.Decides.{nat_tests}
use Rattle.std.proofs.lemmas.List.{nil_from_length}
use Rattle.std.proofs.lemmas.Option.{cond_some}
use Rattle.std.specs.List.{list_all}
use Rattle.std.specs.Str.Parse.{digits_value}
use Rattle.edge_base.specs.declared.token.TokenKind.{TokenKind}
use Rattle.edge_base.specs.declared.token.TokenKind.TheVariants as kind
use Rattle.edge_base.specs.Token.{is_digit, is_name_start, is_name_byte, is_name, is_counting, size_of, number_of, quoted_of, quoted_text_of, marks_of, raw_text_of, list_name_of, is_symbol}
use Rattle.expr_lexer.specs.declared.scanner.State.{State}
use Rattle.expr_lexer.specs.declared.scanner.State.TheVariants as state
use Rattle.expr_lexer.specs.Scan.{kind_from, first_of, symbol_of, counting_of, leading_digit_of, with_next, is_lone, is_comparison, is_doubled}
use Rattle.expr_lexer.proofs.ByteLemmas.{case_at, digit_counts, digit_is_no_minus, counting_digits}
use Rattle.expr_lexer.proofs.StateLemmas.{kind_where, from_whole, from_list_name, from_digits, digit_is, not_zero, is_rest, name_is, in_name, in_text, from_marks, is_raw_behind, is_some-map, mark_is_no_quote}

-- the tokens that the scanner reads; a reserved word is a name
abbrev pub Shape : TokenKind → List ℕ → Type 0
Shape kind.Name text = is_name text ≡ true
Shape kind.Reserved text = ⊥
Shape kind.Number text = IsSome (number_of text)
Shape kind.Address text = ⊥
Shape kind.Block text = ⊥
Shape kind.Text text = IsSome (quoted_text_of text)
Shape kind.RawText text = IsSome (raw_text_of text)
Shape kind.ListName text = IsSome (list_name_of text)
Shape kind.Symbol text = is_symbol text ≡ true

lone_cases : (P : ℕ → Type 0) (byte : ℕ) → is_lone byte ≡ true → P 40 → P 41 → P 91 → P 93 → P 123 → P 125 → P 44 → P 42 → P 126 → P byte
lone_cases P byte h p40 p41 p91 p93 p123 p125 p44 p42 p126 =
    case_at P byte 126 _ h (λ h. case_at P byte 42 _ h (λ h. case_at P byte 44 _ h (λ h. case_at P byte 125 _ h (λ h. case_at P byte 123 _ h (λ h. case_at P byte 93 _ h
    (λ h. case_at P byte 91 _ h (λ h. case_at P byte 41 _ h (λ h. subst P (sym (eqb-true byte 40 h)) p40) p41) p91) p93) p123) p125) p44) p42) p126

comparison_cases : (P : ℕ → Type 0) (byte : ℕ) → is_comparison byte ≡ true → P 33 → P 60 → P 62 → P byte
comparison_cases P byte h p33 p60 p62 =
    case_at P byte 62 _ h (λ h. case_at P byte 60 _ h (λ h. subst P (sym (eqb-true byte 33 h)) p33) p60) p62

doubled_cases : (P : ℕ → Type 0) (byte : ℕ) → is_doubled byte ≡ true → P 46 → P 38 → P 94 → P 124 → P 61 → P byte
doubled_cases P byte h p46 p38 p94 p124 p61 =
    case_at P byte 61 _ h (λ h. case_at P byte 124 _ h (λ h. case_at P byte 94 _ h (λ h. case_at P byte 38 _ h (λ h. subst P (sym (eqb-true byte 46 h)) p46) p38) p94) p124) p61

pub is_some-cond : {A : Type 0} (test : Bool) (x : A) → is_some (cond test (Some x) None) ≡ test
is_some-cond true x = refl
is_some-cond false x = refl

-- ---- digits

zero_counts_not : (byte : ℕ) → (byte == 48) ≡ true → (nat_le 49 byte && nat_le byte 57) ≡ false
zero_counts_not byte is_zero = grind (arith, nat_tests)

other_counts_not : (byte : ℕ) → is_digit byte ≡ false → (nat_le 49 byte && nat_le byte 57) ≡ false
other_counts_not byte other = grind (arith, nat_tests)

small_digit : (byte most : ℕ) → is_digit byte ≡ true → 9 ≤ most → nat_le (0 * 10 + (byte - 48)) most ≡ true
small_digit byte most digit room = grind (arith, nat_tests)

pub size_is_some : (most : ℕ) (digits : List ℕ) → is_some (size_of most digits) ≡ (is_counting digits && nat_le (digits_value 10 digits) most)
size_is_some most digits = is_some-cond _ _

pub size_digits : (most : ℕ) (text : List ℕ) → is_some (size_of most text) ≡ true → list_all is_digit text ≡ true
size_digits most text h = counting_digits text (and_parts (is_counting text) (nat_le (digits_value 10 text) most) (sym (size_is_some most text) ∙ h)).0

pub from_counting : (most byte : ℕ) (text : List ℕ) → 9 ≤ most
    → with_next (counting_of most byte) None (λ next. kind_from next text) ≡ kind_where (is_some (size_of most (byte ∷ text))) kind.Number
from_counting most byte text room = rw (size_is_some most (byte ∷ text)) (elim (cases_Bool (byte == 48)) [
  | inl is_zero ↦ rw (is_zero, zero_counts_not byte is_zero) refl
  | inr other ↦ elim (cases_Bool (is_digit byte)) [
    | inl digit ↦ rw (other, digit_counts byte digit other, digit, small_digit byte most digit room, digit_is byte digit)
        (from_digits most (0 * 10 + (byte - 48)) text (leb-true _ _ (small_digit byte most digit room)))
    | inr none ↦ rw (other, none, other_counts_not byte none) refl
  ]
])

pub from_minus : (text : List ℕ) → kind_from state.Minus text ≡ kind_where (is_some (size_of (2 ^ 63) text)) kind.Number
from_minus [] = refl
from_minus (byte ∷ text) = from_counting (2 ^ 63) byte text (omega arith)

-- ---- what is read is a token

settle : (text : List ℕ) (found token_kind : TokenKind) (test : Bool) (read : Option TokenKind)
    → read ≡ kind_where test found → (test ≡ true → Shape found text) → read ≡ Some token_kind → Shape token_kind text
settle text found token_kind test read is gives h =
    let both = cond_some test found token_kind (sym is ∙ h) in subst (λ (k : TokenKind). Shape k text) both.1 (gives both.0)

nothing : (text : List ℕ) (token_kind : TokenKind) → ◌≡◌ {A = Option TokenKind} None (Some token_kind) → Shape token_kind text
nothing text token_kind h = absurd (cc)

is_nil : (text : List ℕ) → (length text == 0) ≡ true → text ≡ []
is_nil text h = nil_from_length text (eqb-true _ _ h)

raw_cond : (test : Bool) (bytes : Option (List ℕ)) → is_some (cond test bytes None) ≡ (test && is_some bytes)
raw_cond true bytes = refl
raw_cond false bytes = refl

-- a raw text is `r` and what stands behind it
pub raw_is : (text : List ℕ) → is_some (raw_text_of (114 ∷ text)) ≡ is_raw_behind 0 text
raw_is text = rw (zero-add (marks_of text)) (raw_cond (nat_le (marks_of text) 8 && slice_index text (marks_of text) == 34) _)

letter_gives : (text : List ℕ) (token_kind : TokenKind) → kind_from state.Letter text ≡ Some token_kind → Shape token_kind (114 ∷ text)
letter_gives [] token_kind h = settle (114 ∷ []) kind.Name token_kind true (Some kind.Name) refl (λ _. refl) h
letter_gives (byte ∷ text) token_kind h = elim (cases_Bool (byte == 35)) [
  | inl mark ↦ settle _ kind.RawText token_kind (is_raw_behind 0 (byte ∷ text)) (kind_from state.Letter (byte ∷ text))
      (rw mark (rw (mark, mark_is_no_quote byte mark) at (from_marks 0 (byte ∷ text) (omega arith)))) (λ behind. raw_is (byte ∷ text) ∙ behind) h
  | inr other ↦ elim (cases_Bool (byte == 34)) [
    | inl quote ↦ settle _ kind.RawText token_kind (is_raw_behind 0 (byte ∷ text)) (kind_from state.Letter (byte ∷ text))
        (rw (other, quote) (rw (other, quote) at (from_marks 0 (byte ∷ text) (omega arith)))) (λ behind. raw_is (byte ∷ text) ∙ behind) h
    | inr plain ↦ settle _ kind.Name token_kind (is_rest (byte ∷ text)) (kind_from state.Letter (byte ∷ text))
        (rw (other, plain) (in_name (byte ∷ text)).part) (λ rest. name_is 114 (byte ∷ text) ∙ rest) h
  ]
]

leading_gives : (byte : ℕ) (text : List ℕ) (token_kind : TokenKind) → is_digit byte ≡ true
    → with_next (leading_digit_of (2 ^ 63 - 1) byte) None (λ next. kind_from next text) ≡ Some token_kind → Shape token_kind (byte ∷ text)
leading_gives byte text token_kind digit h = elim (cases_Bool (byte == 48)) [
  | inl is_zero ↦ settle _ kind.Number token_kind (length text == 0) _ (rw is_zero (from_whole kind.Number text))
      (λ ended. rw (eqb-true byte 48 is_zero, is_nil text ended) refl) h
  | inr other ↦ settle _ kind.Number token_kind (is_some (size_of (2 ^ 63 - 1) (byte ∷ text))) _
      (rw other (rw other at (from_counting (2 ^ 63 - 1) byte text (omega arith))))
      (λ size. rw (other, digit_is_no_minus byte digit, is_some-map pos (size_of (2 ^ 63 - 1) (byte ∷ text))) size) h
]

minus_gives : (text : List ℕ) (token_kind : TokenKind) → kind_from state.Minus text ≡ Some token_kind → Shape token_kind (45 ∷ text)
minus_gives text token_kind h = settle _ kind.Number token_kind (is_some (size_of (2 ^ 63) text)) _ (from_minus text)
    (λ size. is_some-map (λ (n : ℕ). neg_ℤ (pos n)) (size_of (2 ^ 63) text) ∙ size) h

pub from_dollar : (text : List ℕ) → kind_from state.Dollar text ≡ kind_where (not (length text == 0) && list_all is_name_byte text) kind.ListName
from_dollar [] = refl
from_dollar (byte ∷ text) = rw (not_zero (length text)) (from_list_name (byte ∷ text))

dollar_gives : (text : List ℕ) (token_kind : TokenKind) → kind_from state.Dollar text ≡ Some token_kind → Shape token_kind (36 ∷ text)
dollar_gives text token_kind h = settle _ kind.ListName token_kind _ _ (from_dollar text) (λ named. is_some-cond _ text ∙ named) h

lone_is_symbol : (byte : ℕ) → is_lone byte ≡ true → is_symbol (byte ∷ []) ≡ true
lone_is_symbol byte h = lone_cases (λ (b : ℕ). is_symbol (b ∷ []) ≡ true) byte h refl refl refl refl refl refl refl refl refl

pairs_are_symbols : (byte : ℕ) → is_comparison byte ≡ true → (is_symbol (byte ∷ []) ≡ true) × (is_symbol (byte ∷ 61 ∷ []) ≡ true)
pairs_are_symbols byte h = comparison_cases (λ (b : ℕ). (is_symbol (b ∷ []) ≡ true) × (is_symbol (b ∷ 61 ∷ []) ≡ true)) byte h (refl, refl) (refl, refl) (refl, refl)

doubled_is_symbol : (byte : ℕ) → is_doubled byte ≡ true → is_symbol (byte ∷ byte ∷ []) ≡ true
doubled_is_symbol byte h = doubled_cases (λ (b : ℕ). is_symbol (b ∷ b ∷ []) ≡ true) byte h refl refl refl refl refl

comparison_gives : (first : ℕ) (text : List ℕ) (token_kind : TokenKind) → is_comparison first ≡ true
    → kind_from state.Comparison text ≡ Some token_kind → Shape token_kind (first ∷ text)
comparison_gives first [] token_kind is h = settle _ kind.Symbol token_kind true (Some kind.Symbol) refl (λ _. (pairs_are_symbols first is).0) h
comparison_gives first (byte ∷ text) token_kind is h = elim (cases_Bool (byte == 61)) [
  | inl equals ↦ settle _ kind.Symbol token_kind (length text == 0) _ (rw equals (from_whole kind.Symbol text))
      (λ ended. rw (eqb-true byte 61 equals, is_nil text ended) (pairs_are_symbols first is).1) h
  | inr other ↦ nothing _ token_kind (rw other at h)
]

half_gives : (first : ℕ) (text : List ℕ) (token_kind : TokenKind) → is_doubled first ≡ true
    → kind_from (state.Half first) text ≡ Some token_kind → Shape token_kind (first ∷ text)
half_gives first [] token_kind is h = nothing _ token_kind h
half_gives first (byte ∷ text) token_kind is h = elim (cases_Bool (byte == first)) [
  | inl same ↦ settle _ kind.Symbol token_kind (length text == 0) _ (rw same (from_whole kind.Symbol text))
      (λ ended. rw (eqb-true byte first same, is_nil text ended) (doubled_is_symbol first is)) h
  | inr other ↦ nothing _ token_kind (rw other at h)
]

symbol_gives : (byte : ℕ) (text : List ℕ) (token_kind : TokenKind)
    → with_next (symbol_of byte) None (λ next. kind_from next text) ≡ Some token_kind → Shape token_kind (byte ∷ text)
symbol_gives byte text token_kind h = elim (cases_Bool (is_lone byte)) [
  | inl lone ↦ settle _ kind.Symbol token_kind (length text == 0) _ (rw lone (from_whole kind.Symbol text))
      (λ ended. rw (is_nil text ended) (lone_is_symbol byte lone)) h
  | inr more ↦ elim (cases_Bool (is_comparison byte)) [
    | inl comparison ↦ comparison_gives byte text token_kind comparison (rw (more, comparison) at h)
    | inr other ↦ elim (cases_Bool (is_doubled byte)) [
      | inl doubled ↦ half_gives byte text token_kind doubled (rw (more, other, doubled) at h)
      | inr none ↦ nothing _ token_kind (rw (more, other, none) at h)
    ]
  ]
]

pub first_of_digit : (byte : ℕ) → (byte == 114) ≡ false → is_name_start byte ≡ false → is_digit byte ≡ true → first_of byte ≡ leading_digit_of (2 ^ 63 - 1) byte
first_of_digit byte no_letter no_name digit = rw (no_letter, no_name, digit) refl

pub scan_gives : (text : List ℕ) (token_kind : TokenKind) → kind_from state.Start text ≡ Some token_kind → Shape token_kind text
scan_gives [] token_kind h = nothing [] token_kind h
scan_gives (byte ∷ text) token_kind h = elim (cases_Bool (byte == 114)) [
  | inl letter ↦ rw (eqb-true byte 114 letter) (letter_gives text token_kind (rw letter at h))
  | inr no_letter ↦ elim (cases_Bool (is_name_start byte)) [
    | inl start ↦ settle _ kind.Name token_kind (is_rest text) (kind_from state.Part text) (in_name text).part
        (λ rest. rw (name_is byte text, start) rest) (rw (no_letter, start) at h)
    | inr no_name ↦ elim (cases_Bool (is_digit byte)) [
      | inl digit ↦ leading_gives byte text token_kind digit
          (ap (λ (read : Option State). with_next read None (λ next. kind_from next text)) (sym (first_of_digit byte no_letter no_name digit)) ∙ h)
      | inr no_digit ↦ elim (cases_Bool (byte == 45)) [
        | inl minus ↦ rw (eqb-true byte 45 minus) (minus_gives text token_kind (rw (no_letter, no_name, no_digit, minus) at h))
        | inr no_minus ↦ elim (cases_Bool (byte == 34)) [
          | inl quote ↦ settle _ kind.Text token_kind (is_some (quoted_of false text)) (kind_from state.Quoted text) (in_text text).quoted
              (λ quoted. rw quote quoted) (rw (no_letter, no_name, no_digit, no_minus, quote) at h)
          | inr no_quote ↦ elim (cases_Bool (byte == 36)) [
            | inl dollar ↦ rw (eqb-true byte 36 dollar) (dollar_gives text token_kind (rw (no_letter, no_name, no_digit, no_minus, no_quote, dollar) at h))
            | inr no_dollar ↦ symbol_gives byte text token_kind (rw (no_letter, no_name, no_digit, no_minus, no_quote, no_dollar) at h)
          ]
        ]
      ]
    ]
  ]
]
