-- A text has a cut or a first fault.
use Rattle.std.proofs.Common.{◌≡◌, ◌==◌, ℕ, zero, suc, ◌+◌, ◌-◌, ◌<◌, ◌≤◌, ◌⊎◌, inl, inr, Bool, true, false, not, List, [], ◌∷◌, ◌++◌, length, take, drop, slice_index, IsTrue, is_some, Option, Some, None, refl, sym, ◌∙◌, ap, subst, arith, le_antisymm, length-drop}
use Rattle.std.proofs.lemmas.Bool.{cases_Bool, cases_lt, both_ways}
use Rattle.std.proofs.lemmas.List.{take_rest}
use Rattle.std.proofs.lemmas.Option.{none-some}
use Rattle.std.specs.List.{before_first, after_first}
use Rattle.edge_base.specs.declared.address.Addr.{Addr}
use Rattle.edge_base.specs.declared.token.Token.{Token}
use Rattle.edge_base.specs.declared.token.TokenKind.{TokenKind}
use Rattle.edge_base.specs.declared.token.TokenKind.TheVariants as kind
use Rattle.edge_base.specs.Bytes.{slash}
use Rattle.edge_base.specs.Address.{IsAddrText}
use Rattle.edge_base.specs.Token.{is_blank_byte, is_name, is_reserved, number_of, bits_of, quoted_text_of, raw_text_of, list_name_of, is_symbol, IsBlockText, IsTokenOf}
use Rattle.edge_base.specs.Cut.{IsLongest, IsTokenAt, IsCutBetween, IsCut, IsFirstFault, may_stand_before, UncutHaveFaults}
use Rattle.edge_base.proofs.FoundLemmas.{Found, found-address}
use Rattle.expr_lexer.proofs.ApartLemmas.{empty_is_no_token}
use Rattle.expr_lexer.proofs.CutLemmas.{token_starts, token_stands, no_token_stands, cut_more_blank, cut_more_token}

-- ---- whether a text is a token

abbrev Decided : Type 0 → Type 0
Decided P = P ⊎ (¬ P)

by_test : (test : Bool) → Decided (test ≡ true)
by_test true = inl refl
by_test false = inr (λ holds. both_ways false refl holds)

both : (P Q : Type 0) → Decided P → Decided Q → Decided (P × Q)
both P Q (inl p) (inl q) = inl (p, q)
both P Q (inl p) (inr none) = inr (λ h. none h.1)
both P Q (inr none) other = inr (λ h. none h.0)

address_or_none : (text : List ℕ) → Found (IsAddrText text) → Decided (IsTokenOf kind.Address text)
address_or_none text (inl found) = inl found
address_or_none text (inr none) = inr (λ h. none h.0 h.1)

-- what stands in front of the first `/`, and behind it
abbrev front_of : List ℕ → List ℕ
front_of text = before_first (λ byte. byte == slash) text

abbrev rest_of : List ℕ → List ℕ
rest_of text = after_first (λ byte. byte == slash) text

no_front : (text : List ℕ) → ((a : Addr) → ¬ (IsAddrText (front_of text) a)) → ¬ (IsTokenOf kind.Block text)
no_front text none (a, bits, is) = none a is.0

no_bits : (text : List ℕ) → bits_of (rest_of text) ≡ None → ¬ (IsTokenOf kind.Block text)
no_bits text none (a, bits, is) = none-some bits (sym none ∙ is.1)

block_from : (text : List ℕ) → Found (IsAddrText (front_of text)) → (bits : Option ℕ) → bits_of (rest_of text) ≡ bits → Decided (IsTokenOf kind.Block text)
block_from text (inr none) bits is = inr (no_front text none)
block_from text (inl found) None is = inr (no_bits text is)
block_from text (inl (a, is_a)) (Some bits) is = inl (a, bits, (is_a, is))

block_or_none : (text : List ℕ) → Decided (IsTokenOf kind.Block text)
block_or_none text = block_from text (found-address (front_of text)) (bits_of (rest_of text)) refl

token_or_none : (token_kind : TokenKind) (text : List ℕ) → Decided (IsTokenOf token_kind text)
token_or_none kind.Name text = both _ _ (by_test (is_name text)) (by_test (not (is_reserved text)))
token_or_none kind.Reserved text = by_test (is_reserved text)
token_or_none kind.Number text = by_test (is_some (number_of text))
token_or_none kind.Address text = address_or_none text (found-address text)
token_or_none kind.Block text = block_or_none text
token_or_none kind.Text text = by_test (is_some (quoted_text_of text))
token_or_none kind.RawText text = by_test (is_some (raw_text_of text))
token_or_none kind.ListName text = by_test (is_some (list_name_of text))
token_or_none kind.Symbol text = by_test (is_symbol text)

abbrev kinds : List TokenKind
kinds = kind.Name ∷ kind.Reserved ∷ kind.Number ∷ kind.Address ∷ kind.Block ∷ kind.Text ∷ kind.RawText ∷ kind.ListName ∷ kind.Symbol ∷ []

abbrev NoneOf : List TokenKind → List ℕ → Type 0
NoneOf [] text = Unit {0}
NoneOf (token_kind ∷ more) text = (¬ (IsTokenOf token_kind text)) × NoneOf more text

none_of_all : (text : List ℕ) → NoneOf kinds text → (token_kind : TokenKind) → ¬ (IsTokenOf token_kind text)
none_of_all text (name, (word, (number, (address, (block, (quoted, (raw, (listed, (sign, end))))))))) kind.Name = name
none_of_all text (name, (word, (number, (address, (block, (quoted, (raw, (listed, (sign, end))))))))) kind.Reserved = word
none_of_all text (name, (word, (number, (address, (block, (quoted, (raw, (listed, (sign, end))))))))) kind.Number = number
none_of_all text (name, (word, (number, (address, (block, (quoted, (raw, (listed, (sign, end))))))))) kind.Address = address
none_of_all text (name, (word, (number, (address, (block, (quoted, (raw, (listed, (sign, end))))))))) kind.Block = block
none_of_all text (name, (word, (number, (address, (block, (quoted, (raw, (listed, (sign, end))))))))) kind.Text = quoted
none_of_all text (name, (word, (number, (address, (block, (quoted, (raw, (listed, (sign, end))))))))) kind.RawText = raw
none_of_all text (name, (word, (number, (address, (block, (quoted, (raw, (listed, (sign, end))))))))) kind.ListName = listed
none_of_all text (name, (word, (number, (address, (block, (quoted, (raw, (listed, (sign, end))))))))) kind.Symbol = sign

abbrev AmongOrNone : List TokenKind → List ℕ → Type 0
AmongOrNone more text = ((token_kind : TokenKind) × IsTokenOf token_kind text) ⊎ NoneOf more text

with_first : (token_kind : TokenKind) (more : List TokenKind) (text : List ℕ) → Decided (IsTokenOf token_kind text) → AmongOrNone more text → AmongOrNone (token_kind ∷ more) text
with_first token_kind more text (inl is) rest = inl (token_kind, is)
with_first token_kind more text (inr other) (inl found) = inl found
with_first token_kind more text (inr other) (inr none) = inr (other, none)

among_or_none : (more : List TokenKind) (text : List ℕ) → AmongOrNone more text
among_or_none [] text = inr tt
among_or_none (token_kind ∷ more) text = with_first token_kind more text (token_or_none token_kind text) (among_or_none more text)

-- ---- the longest token at the front of a text

-- the longest token of at most so many bytes
record IsLongestUpTo (most : ℕ) (text : List ℕ) (size : ℕ) (token_kind : TokenKind) : Type 0 where
  within : size ≤ most
  is_token : IsTokenOf token_kind (take size text)
  longest : (other : ℕ) (other_kind : TokenKind) → other ≤ most → IsTokenOf other_kind (take other text) → other ≤ size

-- no token has at most so many bytes
abbrev HasNoneUpTo : ℕ → List ℕ → Type 0
HasNoneUpTo most text = (size : ℕ) (token_kind : TokenKind) → size ≤ most → ¬ (IsTokenOf token_kind (take size text))

abbrev LongestOrNone : ℕ → List ℕ → Type 0
LongestOrNone most text = ((size : ℕ) × (token_kind : TokenKind) × IsLongestUpTo most text size token_kind) ⊎ HasNoneUpTo most text

has_none_more : (most : ℕ) (text : List ℕ) → NoneOf kinds (take (suc most) text) → HasNoneUpTo most text → HasNoneUpTo (suc most) text
has_none_more most text here below size token_kind within is = elim (cases_lt most size) [
  | inl above ↦
      let same : size ≡ suc most = omega arith in
      none_of_all (take (suc most) text) here token_kind (subst (λ (n : ℕ). IsTokenOf token_kind (take n text)) same is)
  | inr under ↦ below size token_kind under is
]

longest_more : (most : ℕ) (text : List ℕ) (size : ℕ) (token_kind : TokenKind) → NoneOf kinds (take (suc most) text)
    → IsLongestUpTo most text size token_kind → IsLongestUpTo (suc most) text size token_kind
longest_more most text size token_kind here h = record {
  within = (let low = h.within in omega arith);
  is_token = h.is_token;
  longest = λ other other_kind within is. elim (cases_lt most other) [
    | inl above ↦
        let same : other ≡ suc most = omega arith in
        absurd (none_of_all (take (suc most) text) here other_kind (subst (λ (n : ℕ). IsTokenOf other_kind (take n text)) same is))
    | inr under ↦ h.longest other other_kind under is
  ];
}

longest_here : (most : ℕ) (text : List ℕ) → AmongOrNone kinds (take (suc most) text) → LongestOrNone most text → LongestOrNone (suc most) text
longest_here most text (inl (token_kind, is)) below =
    inl (suc most, token_kind, record { within = omega arith; is_token = is; longest = λ other other_kind within token. within })
longest_here most text (inr none) (inl (size, token_kind, h)) = inl (size, token_kind, longest_more most text size token_kind none h)
longest_here most text (inr none) (inr fewer) = inr (has_none_more most text none fewer)

longest_or_none : (most : ℕ) (text : List ℕ) → LongestOrNone most text
longest_or_none zero text = inr (λ size token_kind within is.
    let none : size ≡ zero = omega arith in
    empty_is_no_token token_kind (subst (λ (n : ℕ). IsTokenOf token_kind (take n text)) none is))
longest_or_none (suc most) text = longest_here most text (among_or_none kinds (take (suc most) text)) (longest_or_none most text)

-- ---- the token at a place

abbrev TokenOrNone : List ℕ → ℕ → Type 0
TokenOrNone text at = ((token : Token) × (token.start ≡ at) × IsTokenAt text token) ⊎ ((token : Token) → token.start ≡ at → ¬ (IsTokenAt text token))

-- what stands behind a front of these bytes
abbrev behind : List ℕ → ℕ → List ℕ
behind rest size = take (length rest - size) (drop size rest)

stands_or_not : (text : List ℕ) (at size : ℕ) (token_kind : TokenKind) → IsLongest (drop at text) size token_kind
    → (neighbour : Bool) → may_stand_before token_kind (behind (drop at text) size) ≡ neighbour → TokenOrNone text at
stands_or_not text at size token_kind longest true neighbour =
    inl (record { kind = token_kind; start = at; end = at + size }, refl, token_stands text at (drop at text) size token_kind refl longest neighbour)
stands_or_not text at size token_kind longest false neighbour =
    inr (no_token_stands text at (drop at text) size token_kind refl longest neighbour)

token_from : (text : List ℕ) (at : ℕ) → LongestOrNone (length (drop at text)) (drop at text) → TokenOrNone text at
token_from text at (inl (size, token_kind, h)) =
    let longest : IsLongest (drop at text) size token_kind = record { within = h.within; is_token = h.is_token; longest = h.longest } in
    stands_or_not text at size token_kind longest (may_stand_before token_kind (behind (drop at text) size)) refl
token_from text at (inr none) = inr (λ token start h.
    let here : IsLongest (drop at text) (token.end - token.start) token.kind
    = subst (λ (n : ℕ). IsLongest (drop n text) (token.end - token.start) token.kind) start h.is_longest in
    none (token.end - token.start) token.kind here.within here.is_token)

token_or_none_at : (text : List ℕ) (at : ℕ) → TokenOrNone text at
token_or_none_at text at = token_from text at (longest_or_none (length (drop at text)) (drop at text))

-- ---- the whole text

abbrev pub CutOrFault : List ℕ → Type 0
CutOrFault text = ((tokens : List Token) × IsCut text tokens) ⊎ ((at : ℕ) × IsFirstFault text at)

module _ (text : List ℕ) where
  whole : (at : ℕ) (before : List Token) → at ≤ length text → length text ≤ at → IsCutBetween text 0 at before → CutOrFault text
  whole at before within ended cut = inl (before, subst (λ (n : ℕ). IsCutBetween text 0 n before) (le_antisymm within ended) cut)

  -- what comes of the text behind a place, where a cut up to it is given
  abbrev From : ℕ → ℕ → Type 0
  From fuel at = (before : List Token) → length text ≤ at + fuel → at ≤ length text → IsCutBetween text 0 at before → CutOrFault text

  behind_token : (fuel at : ℕ) (before : List Token) → ((end : ℕ) → From fuel end) → length text ≤ at + suc fuel → at < length text
      → IsCutBetween text 0 at before → is_blank_byte (slice_index text at) ≡ false → TokenOrNone text at → CutOrFault text
  behind_token fuel at before go enough inside cut solid (inl (token, start, is)) =
      let starts = token_starts text token is in
      let further : at < token.end = subst (λ (n : ℕ). n < token.end) start starts.some in
      go token.end (before ++ token ∷ []) (omega arith) starts.fits
      (cut_more_token text 0 before token (subst (λ (n : ℕ). IsCutBetween text 0 n before) (sym start) cut) is)
  behind_token fuel at before go enough inside cut solid (inr none) =
      inr (at, record { before = before; is_cut = cut; within = inside; no_blank = solid; no_token = none })

  cut_on : (fuel at : ℕ) → From fuel at
  cut_on zero at before enough within cut = whole at before within (omega arith) cut
  cut_on (suc fuel) at before enough within cut = elim (cases_lt at (length text)) [
    | inl inside ↦ elim (cases_Bool (is_blank_byte (slice_index text at))) [
      | inl blank ↦ cut_on fuel (at + 1) before (omega arith) (omega arith) (cut_more_blank text 0 at before cut inside blank)
      | inr solid ↦ behind_token fuel at before (λ end. cut_on fuel end) enough inside cut solid (token_or_none_at text at)
    ]
    | inr ended ↦ whole at before within ended cut
  ]

uncut : (text : List ℕ) → CutOrFault text → ((tokens : List Token) → ¬ (IsCut text tokens)) → (at : ℕ) × IsFirstFault text at
uncut text (inl (tokens, cut)) none = absurd (none tokens cut)
uncut text (inr fault) none = fault

-- each text has a cut or a place of fault
pub cut_or_fault : (text : List ℕ) → CutOrFault text
cut_or_fault text = cut_on text (length text) 0 [] (omega arith) (omega arith) (omega arith, refl)

pub uncut_have_faults : UncutHaveFaults
uncut_have_faults text none = uncut text (cut_or_fault text) none
