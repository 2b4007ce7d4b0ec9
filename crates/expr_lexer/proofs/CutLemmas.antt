-- A text has one cut at most, and no cut where it has a fault; how a cut grows.
use Rattle.std.proofs.Common.{◌≡◌, ℕ, suc, zero, ◌+◌, ◌-◌, ◌<◌, ◌≤◌, true, false, List, [], ◌∷◌, ◌++◌, length, take, drop, get_or, slice_index, IsTrue, inl, inr, refl, sym, ◌∙◌, ap, subst, arith, le_antisymm, length-drop, length-take, add-sub_of_le}
use Rattle.std.proofs.lemmas.Bool.{cases_lt, cases_order, both_ways, and_from, false_from_ne_true, true_from_ne_false}
use Rattle.std.proofs.lemmas.List.{get_or-drop, get_or-take, drop-drop, take_rest}
use Rattle.std.proofs.lemmas.List.Folds.{list_all_at, list_all_more}
use Rattle.std.specs.List.{list_all, between}
use Rattle.edge_base.specs.declared.token.Token.{Token}
use Rattle.edge_base.specs.declared.token.TokenKind.{TokenKind}
use Rattle.edge_base.specs.Token.{is_blank_byte, IsTokenOf}
use Rattle.edge_base.specs.Cut.{IsLongest, IsTokenAt, IsCutBetween, IsCut, IsFirstFault, may_stand_before}
use Rattle.expr_lexer.proofs.ApartLemmas.{kinds_apart, empty_is_no_token, token_begins_with_no_blank}

-- ---- the longest token is one

record IsSame (one other : ℕ) (kind_one kind_other : TokenKind) : Type 0 where
  size : one ≡ other
  kind : kind_one ≡ kind_other

longest_is_one : (text : List ℕ) (one other : ℕ) (kind_one kind_other : TokenKind)
    → IsLongest text one kind_one → IsLongest text other kind_other → IsSame one other kind_one kind_other
longest_is_one text one other kind_one kind_other h k =
    let same : one ≡ other = le_antisymm (k.longest one kind_one h.within h.is_token) (h.longest other kind_other k.within k.is_token) in
    record { size = same; kind = kinds_apart (take other text) kind_one kind_other (subst (λ (n : ℕ). IsTokenOf kind_one (take n text)) same h.is_token) k.is_token }

same_fields : (k l : TokenKind) (s t e f : ℕ) → k ≡ l → s ≡ t → e ≡ f → ◌≡◌ {A = Token} (record { kind = k; start = s; end = e }) (record { kind = l; start = t; end = f })
same_fields k l s t e f one two three = cc

same_token : (a b : Token) → a.kind ≡ b.kind → a.start ≡ b.start → a.end ≡ b.end → a ≡ b
same_token a b k s e = same_fields a.kind b.kind a.start b.start a.end b.end k s e

token_at_is_one : (text : List ℕ) (one other : Token) → IsTokenAt text one → IsTokenAt text other → one.start ≡ other.start → one ≡ other
token_at_is_one text one other h k start =
    let here : IsLongest (drop other.start text) (one.end - one.start) one.kind = subst (λ (n : ℕ). IsLongest (drop n text) (one.end - one.start) one.kind) start h.is_longest in
    let same = longest_is_one (drop other.start text) (one.end - one.start) (other.end - other.start) one.kind other.kind here k.is_longest in
    same_token one other same.kind start (omega (arith, same.size, h.in_order, k.in_order))

-- ---- where a token begins

pub record IsStart (text : List ℕ) (at end : ℕ) : Type 0 where
  pub within : at < length text
  pub some : at < end
  pub fits : end ≤ length text
  pub no_blank : is_blank_byte (slice_index text at) ≡ false

nonempty : (rest : List ℕ) (size : ℕ) (token_kind : TokenKind) → IsTokenOf token_kind (take size rest) → 0 < size
nonempty rest zero token_kind h = absurd (empty_is_no_token token_kind h)
nonempty rest (suc size) token_kind h = omega arith

begins : (rest : List ℕ) (size : ℕ) (token_kind : TokenKind) → IsTokenOf token_kind (take size rest) → is_blank_byte (slice_index rest 0) ≡ false
begins rest zero token_kind h = absurd (empty_is_no_token token_kind h)
begins [] (suc size) token_kind h = absurd (empty_is_no_token token_kind h)
begins (byte ∷ rest) (suc size) token_kind h = false_from_ne_true (is_blank_byte byte) (token_begins_with_no_blank token_kind byte (take size rest) h)

pub token_starts : (text : List ℕ) (token : Token) → IsTokenAt text token → IsStart text token.start token.end
token_starts text token h =
    let some : 0 < token.end - token.start = nonempty (drop token.start text) (token.end - token.start) token.kind h.is_longest.is_token in
    let within : token.end - token.start ≤ length text - token.start = omega (arith, h.is_longest.within, length-drop token.start text) in
    let first : is_blank_byte (slice_index (drop token.start text) 0) ≡ false = begins (drop token.start text) (token.end - token.start) token.kind h.is_longest.is_token in
    record {
      within = omega (arith, h.in_order);
      some = omega arith;
      fits = omega (arith, h.in_order);
      no_blank = rw (get_or-drop token.start text 0 0, (let e : token.start + 0 ≡ token.start = omega arith in e)) at first;
    }

-- ---- blanks

length_inside : (text : List ℕ) (start end at : ℕ) → start ≤ at → at < end → at < length text → at - start < length (take (end - start) (drop start text))
length_inside text start end at from to within = omega (arith, length-take (end - start) (drop start text), length-drop start text)

blank_inside : (text : List ℕ) (start end at : ℕ) → IsTrue (list_all is_blank_byte (between start end text)) → start ≤ at → at < end → at < length text
    → is_blank_byte (slice_index text at) ≡ true
blank_inside text start end at h from to within = true_from_ne_false (is_blank_byte (slice_index text at)) (λ other.
    let same : get_or (take (end - start) (drop start text)) (at - start) 0 ≡ get_or text at 0
    = get_or-take (end - start) (drop start text) (at - start) 0 (omega arith) ∙ get_or-drop start text (at - start) 0 ∙ ap (λ (n : ℕ). get_or text n 0) (add-sub_of_le from) in
    both_ways _ (list_all_at is_blank_byte (take (end - start) (drop start text)) (at - start) 0 (omega (arith, length_inside text start end at from to within))
    (ap is_blank_byte same ∙ other)) h)

-- ---- one cut

same_start : (text : List ℕ) (start : ℕ) (one other : Token) → start ≤ one.start → IsTrue (list_all is_blank_byte (between start one.start text))
    → start ≤ other.start → IsTrue (list_all is_blank_byte (between start other.start text)) → IsTokenAt text one → IsTokenAt text other → one.start ≡ other.start
same_start text start one other from blanks onward others h k = elim (cases_order one.start other.start) [
  | inl same ↦ same
  | inr apart ↦ elim apart [
    | inl before ↦ let s = token_starts text one h in absurd (both_ways _ s.no_blank (blank_inside text start other.start one.start others from before s.within))
    | inr behind ↦ let s = token_starts text other k in absurd (both_ways _ s.no_blank (blank_inside text start one.start other.start blanks onward behind s.within))
  ]
]

blanks_hold_no_token : (text : List ℕ) (start end : ℕ) (token : Token) → IsTrue (list_all is_blank_byte (between start end text)) → start ≤ token.start → token.start < end
    → IsTokenAt text token → ⊥
blanks_hold_no_token text start end token blanks from to h = let s = token_starts text token h in
    both_ways _ s.no_blank (blank_inside text start end token.start blanks from to s.within)

pub cut_is_one : (text : List ℕ) (start : ℕ) (one other : List Token) → IsCutBetween text start (length text) one → IsCutBetween text start (length text) other → one ≡ other
cut_is_one text start [] [] h k = refl
cut_is_one text start [] (token ∷ other) h k = absurd (blanks_hold_no_token text start (length text) token h.1 k.0 (token_starts text token k.2).within k.2)
cut_is_one text start (token ∷ one) [] h k = absurd (blanks_hold_no_token text start (length text) token k.1 h.0 (token_starts text token h.2).within h.2)
cut_is_one text start (token ∷ one) (next ∷ other) h k =
    let same : token ≡ next = token_at_is_one text token next h.2 k.2 (same_start text start token next h.0 h.1 k.0 k.1 h.2 k.2) in
    let rest : one ≡ other = cut_is_one text token.end one other h.3 (subst (λ (t : Token). IsCutBetween text t.end (length text) other) (sym same) k.3) in
    ap (λ (t : Token). t ∷ one) same ∙ ap (λ (l : List Token). next ∷ l) rest

-- ---- a fault and a cut

cut_goes_on : (text : List ℕ) (start end : ℕ) (tokens : List Token) → IsCutBetween text start end tokens → start ≤ end
cut_goes_on text start end [] h = h.0
cut_goes_on text start end (token ∷ tokens) h =
    let later : token.end ≤ end = cut_goes_on text token.end end tokens h.3 in omega (arith, h.0, h.2.in_order)

-- neither a blank nor a token stands at this place
record IsFault (text : List ℕ) (at : ℕ) : Type 0 where
  within : at < length text
  no_blank : is_blank_byte (slice_index text at) ≡ false
  no_token : (token : Token) → token.start ≡ at → ¬ (IsTokenAt text token)

-- no cut from the same place gets past a fault
fault_stops : (text : List ℕ) (start at end : ℕ) (before tokens : List Token) → IsFault text at → IsCutBetween text start at before → IsCutBetween text start end tokens → end ≤ at
fault_stops text start at end [] [] fault h k = elim (cases_lt at end) [
  | inl past ↦ absurd (both_ways _ fault.no_blank (blank_inside text start end at k.1 h.0 past fault.within))
  | inr not_past ↦ not_past
]
fault_stops text start at end [] (token ∷ tokens) fault h k = absurd (elim (cases_order token.start at) [
  | inl same ↦ fault.no_token token same k.2
  | inr apart ↦ elim apart [
    | inl before ↦ blanks_hold_no_token text start at token h.1 k.0 before k.2
    | inr behind ↦ both_ways _ fault.no_blank (blank_inside text start token.start at k.1 h.0 behind fault.within)
  ]
])
fault_stops text start at end (token ∷ before) [] fault h k = elim (cases_lt token.start end) [
  | inl past ↦ absurd (blanks_hold_no_token text start end token k.1 h.0 past h.2)
  | inr not_past ↦ let on : token.end ≤ at = cut_goes_on text token.end at before h.3 in omega (arith, h.2.in_order)
]
fault_stops text start at end (token ∷ before) (next ∷ tokens) fault h k =
    let same : token ≡ next = token_at_is_one text token next h.2 k.2 (same_start text start token next h.0 h.1 k.0 k.1 h.2 k.2) in
    fault_stops text token.end at end before tokens fault h.3 (subst (λ (t : Token). IsCutBetween text t.end end tokens) (sym same) k.3)

fault_of : (text : List ℕ) (at : ℕ) → IsFirstFault text at → IsFault text at
fault_of text at h = record { within = h.within; no_blank = h.no_blank; no_token = h.no_token }

pub fault_has_no_cut : (text : List ℕ) (at : ℕ) → IsFirstFault text at → (tokens : List Token) → ¬ (IsCut text tokens)
fault_has_no_cut text at h tokens k =
    let stops : length text ≤ at = fault_stops text 0 at (length text) h.before tokens (fault_of text at h) h.is_cut k in omega (arith, h.within)

pub fault_is_one : (text : List ℕ) (at other : ℕ) → IsFirstFault text at → IsFirstFault text other → at ≡ other
fault_is_one text at other h k =
    let one : other ≤ at = fault_stops text 0 at other h.before k.before (fault_of text at h) h.is_cut k.is_cut in
    let two : at ≤ other = fault_stops text 0 other at k.before h.before (fault_of text other k) k.is_cut h.is_cut in
    omega arith

-- ---- how a cut grows

one_more_blank : (text : List ℕ) (start at : ℕ) → start ≤ at → at < length text → IsTrue (list_all is_blank_byte (between start at text)) → is_blank_byte (slice_index text at) ≡ true
    → IsTrue (list_all is_blank_byte (between start (at + 1) text))
one_more_blank text start at from within blanks blank =
    let same : get_or (drop start text) (at - start) 0 ≡ get_or text at 0 = get_or-drop start text (at - start) 0 ∙ ap (λ (n : ℕ). get_or text n 0) (add-sub_of_le from) in
    let sizes : at + 1 - start ≡ at - start + 1 = omega arith in
    rw (sizes, list_all_more is_blank_byte (drop start text) (at - start) 0 (omega (arith, length-drop start text)))
    (and_from _ _ blanks (ap is_blank_byte same ∙ blank))

pub cut_more_blank : (text : List ℕ) (start at : ℕ) (tokens : List Token) → IsCutBetween text start at tokens → at < length text → is_blank_byte (slice_index text at) ≡ true
    → IsCutBetween text start (at + 1) tokens
cut_more_blank text start at [] h within blank = (omega (arith, h.0), one_more_blank text start at h.0 within h.1 blank)
cut_more_blank text start at (token ∷ tokens) h within blank = (h.0, h.1, h.2, cut_more_blank text token.end at tokens h.3 within blank)

no_blanks : (text : List ℕ) (at : ℕ) → IsTrue (list_all is_blank_byte (between at at text))
no_blanks text at = rw (let e : at - at ≡ 0 = omega arith in e) refl

pub cut_more_token : (text : List ℕ) (start : ℕ) (tokens : List Token) (token : Token) → IsCutBetween text start token.start tokens → IsTokenAt text token
    → IsCutBetween text start token.end (tokens ++ token ∷ [])
cut_more_token text start [] token h at = (h.0, h.1, at, (omega arith, no_blanks text token.end))
cut_more_token text start (first ∷ tokens) token h at = (h.0, h.1, h.2, cut_more_token text first.end tokens token h.3 at)

-- ---- the longest token at a place

pub token_stands : (text : List ℕ) (at : ℕ) (rest : List ℕ) (size : ℕ) (token_kind : TokenKind) → rest ≡ drop at text → IsLongest rest size token_kind
    → may_stand_before token_kind (take (length rest - size) (drop size rest)) ≡ true → IsTokenAt text (record { kind = token_kind; start = at; end = at + size })
token_stands text at rest size token_kind is longest neighbour = record {
  in_order = omega arith;
  is_longest = rw (let e : at + size - at ≡ size = omega arith in e) (subst (λ (l : List ℕ). IsLongest l size token_kind) is longest);
  neighbour = rw (← drop-drop size at text, ← is, ← take_rest rest size) neighbour;
}

pub no_token_stands : (text : List ℕ) (at : ℕ) (rest : List ℕ) (size : ℕ) (token_kind : TokenKind) → rest ≡ drop at text → IsLongest rest size token_kind
    → may_stand_before token_kind (take (length rest - size) (drop size rest)) ≡ false → (token : Token) → token.start ≡ at → ¬ (IsTokenAt text token)
no_token_stands text at rest size token_kind is longest neighbour token start h =
    let here : IsLongest rest (token.end - token.start) token.kind
    = subst (λ (l : List ℕ). IsLongest l (token.end - token.start) token.kind) (ap (λ (n : ℕ). drop n text) start ∙ sym is) h.is_longest in
    let same = longest_is_one rest size (token.end - token.start) token_kind token.kind longest here in
    let end : token.end ≡ at + size = omega (arith, same.size, h.in_order) in
    let behind : take (length rest - size) (drop size rest) ≡ drop token.end text
    = take_rest rest size ∙ ap (drop size) is ∙ drop-drop size at text ∙ ap (λ (n : ℕ). drop n text) (sym end) in
    both_ways _ (sym (ap (λ (k : TokenKind). may_stand_before k (take (length rest - size) (drop size rest))) same.kind ∙ ap (may_stand_before token.kind) behind)
    ∙ neighbour) h.neighbour
