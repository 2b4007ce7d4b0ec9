-- What each state of the scanner takes, in the words of the tokens.
use Rattle.std.proofs.Common.{◌≡◌, ℕ, suc, zero, ◌+◌, ◌-◌, ◌*◌, ◌<◌, ◌≤◌, Bool, true, false, cond, ◌&&◌, ◌||◌, nat_eq, nat_lt, nat_le, ◌==◌, List, [], ◌∷◌, length, drop, replicate, slice_index, is_some, Option, Some, None, option_map, inl, inr, refl, sym, ◌∙◌, ap, arith, add-one, one-add, add-zero, eqb-true, le-leb, leb-true, leb-false, ltb-true, ne_eqb, suc-ne-zero}
use Rattle.std.proofs.Math.Bool.{and-false}
use Rattle.std.proofs.lemmas.Bool.{cases_Bool, and_right, lt-leb}
use Rattle.std.proofs.lemmas.Bool.Decides.{nat_tests}
use Rattle.std.specs.List.{list_all, starts_with, slice_split, onto_first}
use Rattle.std.specs.Str.Parse.{digits_value_after}
use Rattle.std.specs.Char.{digit_value}
use Rattle.edge_base.proofs.DigitLemmas.{digits_grow}
use Rattle.edge_base.specs.declared.token.TokenKind.{TokenKind}
use Rattle.edge_base.specs.declared.token.TokenKind.TheVariants as kind
use Rattle.edge_base.specs.Token.{is_digit, is_name_start, is_name_byte, is_part, is_name, quoted_of, raw_bytes_of, marks_of}
use Rattle.expr_lexer.specs.declared.scanner.State.TheVariants as state
use Rattle.expr_lexer.specs.Scan.{kind_from, raw_of, closing_of}

-- this kind where the test holds
abbrev pub kind_where : Bool → TokenKind → Option TokenKind
kind_where test token_kind = cond test (Some token_kind) None

pub not_zero : (n : ℕ) → (suc n == 0) ≡ false
not_zero n = ne_eqb (suc n) 0 (λ same. suc-ne-zero n same)

pub from_whole : (token_kind : TokenKind) (text : List ℕ) → kind_from (state.Whole token_kind) text ≡ kind_where (length text == 0) token_kind
from_whole token_kind [] = refl
from_whole token_kind (byte ∷ text) = rw (not_zero (length text)) refl

pub from_list_name : (text : List ℕ) → kind_from state.ListName text ≡ kind_where (list_all is_name_byte text) kind.ListName
from_list_name [] = refl
from_list_name (byte ∷ text) =
    elim (cases_Bool (is_name_byte byte)) [ inl holds ↦ rw holds (from_list_name text) | inr fails ↦ rw fails refl ]

-- the parts of a name of which the first has begun
abbrev are_parts : List (List ℕ) → Bool
are_parts [] = true
are_parts (part ∷ parts) = list_all is_name_byte part && list_all is_part parts

abbrev pub is_dot : ℕ → Bool
is_dot byte = byte == 46

-- the rest of a name behind a byte of a part
abbrev pub is_rest : List ℕ → Bool
is_rest text = are_parts (slice_split is_dot text)

are_parts-onto_first : (byte : ℕ) (parts : List (List ℕ)) → are_parts (onto_first byte parts) ≡ (is_name_byte byte && are_parts parts)
are_parts-onto_first byte [] = elim (cases_Bool (is_name_byte byte)) [ inl holds ↦ rw holds refl | inr fails ↦ rw fails refl ]
are_parts-onto_first byte (part ∷ parts) = elim (cases_Bool (is_name_byte byte)) [ inl holds ↦ rw holds refl | inr fails ↦ rw fails refl ]

all_parts-onto_first : (byte : ℕ) (parts : List (List ℕ)) → list_all is_part (onto_first byte parts) ≡ (is_name_start byte && are_parts parts)
all_parts-onto_first byte [] = elim (cases_Bool (is_name_start byte)) [ inl holds ↦ rw holds refl | inr fails ↦ rw fails refl ]
all_parts-onto_first byte (part ∷ parts) = elim (cases_Bool (is_name_start byte)) [ inl holds ↦ rw holds refl | inr fails ↦ rw fails refl ]

pub dot_starts_no_name : (byte : ℕ) → is_dot byte ≡ true → is_name_start byte ≡ false
dot_starts_no_name byte dot = rw (eqb-true byte 46 dot) refl

-- a name is a first byte and its rest
pub name_is : (byte : ℕ) (text : List ℕ) → is_name (byte ∷ text) ≡ (is_name_start byte && is_rest text)
name_is byte text = elim (cases_Bool (is_dot byte)) [
  | inl dot ↦ rw (dot, dot_starts_no_name byte dot) refl
  | inr other ↦ rw other (all_parts-onto_first byte (slice_split is_dot text))
]

pub rest_is : (byte : ℕ) (text : List ℕ) → is_rest (byte ∷ text) ≡ cond (is_dot byte) (is_name text) (is_name_byte byte && is_rest text)
rest_is byte text = elim (cases_Bool (is_dot byte)) [
  | inl dot ↦ rw dot refl
  | inr other ↦ rw other (are_parts-onto_first byte (slice_split is_dot text))
]

pub record InName (text : List ℕ) : Type 0 where
  pub part : kind_from state.Part text ≡ kind_where (is_rest text) kind.Name
  pub dot : kind_from state.Dot text ≡ kind_where (is_name text) kind.Name

pub in_name : (text : List ℕ) → InName text
in_name [] = record { part = refl; dot = refl }
in_name (byte ∷ text) = record {
  part = rw (rest_is byte text) (elim (cases_Bool (is_dot byte)) [
    | inl dot ↦ rw dot (in_name text).dot
    | inr other ↦ elim (cases_Bool (is_name_byte byte)) [
      | inl holds ↦ rw (other, holds) (in_name text).part
      | inr fails ↦ rw (other, fails) refl
    ]
  ]);
  dot = rw (name_is byte text) (elim (cases_Bool (is_name_start byte)) [
    | inl holds ↦ rw holds (in_name text).part
    | inr fails ↦ rw fails refl
  ]);
}

pub digit_is : (byte : ℕ) → is_digit byte ≡ true → digit_value byte ≡ byte - 48
digit_is byte digit = grind (arith, nat_tests)

pub from_digits : (most size : ℕ) (text : List ℕ) → size ≤ most
    → kind_from (state.Digits most size) text ≡ kind_where (list_all is_digit text && nat_le (digits_value_after 10 size text) most) kind.Number
from_digits most size [] within = rw (le-leb size most within) refl
from_digits most size (byte ∷ text) within = elim (cases_Bool (is_digit byte)) [
  | inl holds ↦ rw (holds, digit_is byte holds) (elim (cases_Bool (nat_le (size * 10 + (byte - 48)) most)) [
    | inl fits ↦ rw fits (from_digits most (size * 10 + (byte - 48)) text (leb-true _ _ fits))
    | inr over ↦ let grown : most < digits_value_after 10 (size * 10 + (byte - 48)) text = omega (arith, digits_grow (size * 10 + (byte - 48)) text, leb-false _ _ over) in
        rw over (sym (ap (λ (test : Bool). kind_where test kind.Number) (and_right (list_all is_digit text) _ (lt-leb _ _ grown))))
  ])
  | inr fails ↦ rw fails refl
]

pub is_some-map : {A B : Type 0} (f : A → B) (o : Option A) → is_some (option_map f o) ≡ is_some o
is_some-map f None = refl
is_some-map f (Some x) = refl

pub record InText (text : List ℕ) : Type 0 where
  pub quoted : kind_from state.Quoted text ≡ kind_where (is_some (quoted_of false text)) kind.Text
  pub escaped : kind_from state.Escaped text ≡ kind_where (is_some (quoted_of true text)) kind.Text

ends : {A : Type 0} (token_kind : TokenKind) (text : List ℕ) (n : ℕ) (x : A)
    → kind_where (length text == n) token_kind ≡ kind_where (is_some (cond (length text == n) (Some x) None)) token_kind
ends token_kind text n x = elim (cases_Bool (length text == n)) [ inl holds ↦ rw holds refl | inr fails ↦ rw fails refl ]

pub in_text : (text : List ℕ) → InText text
in_text [] = record { quoted = refl; escaped = refl }
in_text (byte ∷ text) = record {
  quoted = elim (cases_Bool (byte == 34)) [
    | inl quote ↦ rw quote (from_whole kind.Text text ∙ ends kind.Text text 0 [])
    | inr other ↦ elim (cases_Bool (byte == 92)) [
      | inl back ↦ rw (other, back) (in_text text).escaped
      | inr plain ↦ rw (other, plain, is_some-map (λ (bytes : List ℕ). byte ∷ bytes) (quoted_of false text)) (in_text text).quoted
    ]
  ];
  escaped = elim (cases_Bool (byte == 34 || byte == 92)) [
    | inl holds ↦ rw (holds, is_some-map (λ (bytes : List ℕ). byte ∷ bytes) (quoted_of false text)) (in_text text).quoted
    | inr fails ↦ rw fails refl
  ];
}

same_bytes : (a b : ℕ) → (a == b) ≡ (b == a)
same_bytes a b = grind (arith, nat_tests)

-- the text begins with this many marks
abbrev has_marks : ℕ → List ℕ → Bool
has_marks marks text = starts_with nat_eq text (replicate marks 35)

record InRaw (text : List ℕ) : Type 0 where
  raw : (marks : ℕ) → kind_from (state.Raw marks) text ≡ kind_where (is_some (raw_bytes_of marks text)) kind.RawText
  closing : (marks left : ℕ) → kind_from (state.Closing marks (suc left)) text
      ≡ cond (has_marks (suc left) text) (kind_where (length text == suc left) kind.RawText)
      (kind_where (is_some (raw_bytes_of marks text)) kind.RawText)

choose : (test : Bool) (text : List ℕ) (marks : ℕ) (rest : Option (List ℕ))
    → cond test (kind_where (length text == marks) kind.RawText) (kind_where (is_some rest) kind.RawText)
    ≡ kind_where (is_some (cond test (cond (length text == marks) (Some []) None) rest)) kind.RawText
choose true text marks rest = ends kind.RawText text marks []
choose false text marks rest = refl

raw_more : (byte : ℕ) (text : List ℕ) → (byte == 34) ≡ true → InRaw text → (marks : ℕ)
    → kind_from (raw_of marks byte) text ≡ kind_where (is_some (raw_bytes_of marks (byte ∷ text))) kind.RawText
raw_more byte text quote later zero = rw quote (from_whole kind.RawText text ∙ ends kind.RawText text 0 [])
raw_more byte text quote later (suc marks) = rw (quote, not_zero marks)
    (later.closing (suc marks) marks
    ∙ ap (λ (test : Bool). cond (has_marks (suc marks) text) (kind_where (length text == suc marks) kind.RawText) (kind_where test kind.RawText))
    (sym (is_some-map (λ (bytes : List ℕ). byte ∷ bytes) (raw_bytes_of (suc marks) text)))
    ∙ choose (has_marks (suc marks) text) text (suc marks) (option_map (λ (bytes : List ℕ). byte ∷ bytes) (raw_bytes_of (suc marks) text)))

raw_next : (byte : ℕ) (text : List ℕ) → InRaw text → (marks : ℕ)
    → kind_from (raw_of marks byte) text ≡ kind_where (is_some (raw_bytes_of marks (byte ∷ text))) kind.RawText
raw_next byte text later marks = elim (cases_Bool (byte == 34)) [
  | inl quote ↦ raw_more byte text quote later marks
  | inr other ↦ rw (other, is_some-map (λ (bytes : List ℕ). byte ∷ bytes) (raw_bytes_of marks text)) (later.raw marks)
]

suc_same : (a b : ℕ) → (suc a == suc b) ≡ (a == b)
suc_same a b = grind (arith, nat_tests)

more_than_one : (n : ℕ) → nat_le (suc (suc n)) 1 ≡ false
more_than_one n = grind (arith, nat_tests)

one_less : (n : ℕ) → suc n - 1 ≡ n
one_less n = omega arith

pub mark_is_no_quote : (byte : ℕ) → (byte == 35) ≡ true → (byte == 34) ≡ false
mark_is_no_quote byte mark = grind (arith, nat_tests)

mark_closes : (byte : ℕ) (text : List ℕ) → (byte == 35) ≡ true → InRaw text → (marks left : ℕ)
    → kind_from (closing_of marks (suc left) byte) text
    ≡ cond (has_marks (suc left) (byte ∷ text)) (kind_where (length (byte ∷ text) == suc left) kind.RawText)
    (kind_where (is_some (raw_bytes_of marks (byte ∷ text))) kind.RawText)
mark_closes byte text mark later marks zero = rw (mark, same_bytes 35 byte, mark, suc_same (length text) 0) (from_whole kind.RawText text)
mark_closes byte text mark later marks (suc left) =
    rw (
      mark,
      more_than_one left,
      one_less (suc left),
      same_bytes 35 byte,
      mark,
      suc_same (length text) (suc left),
      mark_is_no_quote byte mark,
      is_some-map (λ (bytes : List ℕ). byte ∷ bytes) (raw_bytes_of marks text),
    ) (later.closing marks left)

in_raw : (text : List ℕ) → InRaw text
in_raw [] = record { raw = λ marks. refl; closing = λ marks left. refl }
in_raw (byte ∷ text) = record {
  raw = λ marks. raw_next byte text (in_raw text) marks;
  closing = λ marks left. elim (cases_Bool (byte == 35)) [
    | inl mark ↦ mark_closes byte text mark (in_raw text) marks left
    | inr other ↦ rw (other, same_bytes 35 byte, other) (raw_next byte text (in_raw text) marks)
  ];
}

-- the bytes of a raw text behind `r` and this many marks
abbrev pub is_raw_behind : ℕ → List ℕ → Bool
is_raw_behind marks text =
    nat_le (marks + marks_of text) 8 && slice_index text (marks_of text) == 34
    && is_some (raw_bytes_of (marks + marks_of text) (drop (marks_of text + 1) text))

quote_ends_marks : (byte : ℕ) → (byte == 34) ≡ true → (byte == 35) ≡ false
quote_ends_marks byte quote = grind (arith, nat_tests)

one_more : (a b : ℕ) → a + (1 + b) ≡ a + 1 + b
one_more a b = omega arith

too_many : (a b : ℕ) → nat_lt a 8 ≡ false → nat_le (a + (1 + b)) 8 ≡ false
too_many a b over = grind (arith, nat_tests)

pub drop_past : (n : ℕ) (byte : ℕ) (text : List ℕ) → drop (1 + n + 1) (byte ∷ text) ≡ drop (n + 1) text
drop_past n byte text = rw (one-add n, add-one (suc n), add-one n) refl

index_past : (n : ℕ) (byte : ℕ) (text : List ℕ) → slice_index (byte ∷ text) (1 + n) ≡ slice_index text n
index_past n byte text = rw (one-add n) refl

drop_none : (byte : ℕ) (text : List ℕ) → drop (0 + 1) (byte ∷ text) ≡ text
drop_none byte text = refl

pub from_marks : (marks : ℕ) (text : List ℕ) → marks ≤ 8
    → kind_from (state.Marks marks) text ≡ kind_where (is_raw_behind marks text) kind.RawText
from_marks marks [] within = rw (and-false (nat_le (marks + 0) 8)) refl
from_marks marks (byte ∷ text) within = elim (cases_Bool (byte == 34)) [
  | inl quote ↦ rw (quote_ends_marks byte quote, quote, add-zero marks, le-leb marks 8 within, drop_none byte text) ((in_raw text).raw marks)
  | inr other ↦ elim (cases_Bool (byte == 35)) [
    | inl mark ↦ elim (cases_Bool (nat_lt marks 8)) [
      | inl fits ↦ rw (other, mark, fits, index_past (marks_of text) byte text, drop_past (marks_of text) byte text, one_more marks (marks_of text))
          (from_marks (marks + 1) text (omega (arith, ltb-true _ _ fits)))
      | inr over ↦ rw (other, mark, over, too_many marks (marks_of text) over) refl
    ]
    | inr third ↦ rw (third, other, and-false (nat_le (marks + 0) 8)) refl
  ]
]
