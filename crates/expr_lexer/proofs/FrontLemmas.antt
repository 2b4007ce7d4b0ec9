-- The best front that is read is the longest token of the kinds that are read.
use Rattle.std.proofs.Common.{◌≡◌, ℕ, suc, zero, ◌+◌, ◌<◌, ◌≤◌, ◌⊎◌, List, [], ◌∷◌, length, take, Option, Some, None, MatchOption, inl, inr, refl, sym, ◌∙◌, ap, subst, arith, zero-add}
use Rattle.std.proofs.lemmas.Bool.{cases_lt}
use Rattle.edge_base.specs.declared.token.TokenKind.{TokenKind}
use Rattle.expr_lexer.specs.declared.scanner.State.{State}
use Rattle.expr_lexer.specs.declared.fronts.Front.{Front}
use Rattle.expr_lexer.specs.Scan.{next_of, kind_in, kind_from, with_next}
use Rattle.expr_lexer.specs.Fronts.{better, best_from}

-- ---- the best front

-- the best so far stands, since no front from here on is read; or a front of `more` bytes is the last that is
abbrev IsBest : State → List ℕ → ℕ → Option Front → Option Front → Type 0
IsBest from text at best result =
    ((result ≡ best) × ((size : ℕ) → 0 < size → size ≤ length text → kind_from from (take size text) ≡ None))
    ⊎ ((more : ℕ) × (token_kind : TokenKind) × (result ≡ Some (record { size = at + more; kind = token_kind })) × (0 < more) × (more ≤ length text)
    × (kind_from from (take more text) ≡ Some token_kind)
    × ((size : ℕ) → more < size → size ≤ length text → kind_from from (take size text) ≡ None))

-- the same behind a byte that was read or not
abbrev IsBestBehind : Option State → List ℕ → ℕ → Option Front → Option Front → Type 0
IsBestBehind read text at best result =
    ((result ≡ best) × ((size : ℕ) → size ≤ length text → with_next read None (λ next. kind_from next (take size text)) ≡ None))
    ⊎ ((more : ℕ) × (token_kind : TokenKind) × (result ≡ Some (record { size = at + 1 + more; kind = token_kind })) × (more ≤ length text)
    × (with_next read None (λ next. kind_from next (take more text)) ≡ Some token_kind)
    × ((size : ℕ) → more < size → size ≤ length text → with_next read None (λ next. kind_from next (take size text)) ≡ None))

none_at : (next : State) (text : List ℕ) → kind_in next ≡ None
    → ((size : ℕ) → 0 < size → size ≤ length text → kind_from next (take size text) ≡ None)
    → (size : ℕ) → size ≤ length text → kind_from next (take size text) ≡ None
none_at next text here later zero within = here
none_at next text here later (suc size) within = later (suc size) (omega arith) within

behind_kept : (next : State) (text : List ℕ) (at : ℕ) (best result : Option Front) (ends : Option TokenKind) → kind_in next ≡ ends
    → result ≡ better ends (at + 1) best
    → ((size : ℕ) → 0 < size → size ≤ length text → kind_from next (take size text) ≡ None)
    → IsBestBehind (Some next) text at best result
behind_kept next text at best result None here same later = inl (same, none_at next text here later)
behind_kept next text at best result (Some token_kind) here same later =
    inr (
      0,
      token_kind,
      same ∙ ap (λ (n : ℕ). Some (record { size = n; kind = token_kind }))
          (let e : at + 1 ≡ at + 1 + 0 = omega arith in e),
      omega arith,
      here,
      λ size beyond within. later size beyond within,
    )

behind_next : (next : State) (text : List ℕ) (at : ℕ) (best result : Option Front)
    → IsBest next text (at + 1) (better (kind_in next) (at + 1) best) result → IsBestBehind (Some next) text at best result
behind_next next text at best result (inl kept) = behind_kept next text at best result (kind_in next) refl kept.0 kept.1
behind_next next text at best result (inr found) = inr (found.0, found.1, found.2, found.4, found.5, found.6)

behind : (read : Option State) (text : List ℕ) (at : ℕ) (best : Option Front)
    → ((next : State) → IsBest next text (at + 1) (better (kind_in next) (at + 1) best) (best_from next text (at + 1) (better (kind_in next) (at + 1) best)))
    → IsBestBehind read text at best (with_next read best (λ next. best_from next text (at + 1) (better (kind_in next) (at + 1) best)))
behind None text at best later = inl (refl, λ size within. refl)
behind (Some next) text at best later = behind_next next text at best _ (later next)

all_none : (from : State) (byte : ℕ) (text : List ℕ)
    → ((size : ℕ) → size ≤ length text → with_next (next_of from byte) None (λ next. kind_from next (take size text)) ≡ None)
    → (size : ℕ) → 0 < size → size ≤ length (byte ∷ text) → kind_from from (take size (byte ∷ text)) ≡ None
all_none from byte text h zero some within = absurd (omega arith)
all_none from byte text h (suc size) some within = h size (omega arith)

none_beyond : (from : State) (byte : ℕ) (text : List ℕ) (more : ℕ)
    → ((size : ℕ) → more < size → size ≤ length text → with_next (next_of from byte) None (λ next. kind_from next (take size text)) ≡ None)
    → (size : ℕ) → suc more < size → size ≤ length (byte ∷ text) → kind_from from (take size (byte ∷ text)) ≡ None
none_beyond from byte text more h zero beyond within = absurd (omega arith)
none_beyond from byte text more h (suc size) beyond within = h size (omega arith) (omega arith)

in_front : (from : State) (byte : ℕ) (text : List ℕ) (at : ℕ) (best result : Option Front)
    → IsBestBehind (next_of from byte) text at best result → IsBest from (byte ∷ text) at best result
in_front from byte text at best result (inl kept) = inl (kept.0, all_none from byte text kept.1)
in_front from byte text at best result (inr found) =
    inr (
      suc found.0,
      found.1,
      found.2 ∙ ap (λ (n : ℕ). Some (record { size = n; kind = found.1 })) (let e : at + 1 + found.0 ≡ at + suc found.0 = omega arith in e),
      omega arith,
      omega (arith, found.3),
      found.4,
      none_beyond from byte text found.0 found.5,
    )

best_is : (from : State) (text : List ℕ) (at : ℕ) (best : Option Front) → IsBest from text at best (best_from from text at best)
best_is from [] at best = inl (refl, λ size some within. absurd (omega arith))
best_is from (byte ∷ text) at best =
    in_front from byte text at best _ (behind (next_of from byte) text at best (λ next. best_is next text (at + 1) (better (kind_in next) (at + 1) best)))

pub record IsLongestRead (from : State) (text : List ℕ) (front : Front) : Type 0 where
  pub within : front.size ≤ length text
  pub read : kind_from from (take front.size text) ≡ Some front.kind
  pub longest : (size : ℕ) (token_kind : TokenKind) → size ≤ length text → kind_from from (take size text) ≡ Some token_kind → size ≤ front.size

abbrev pub HasNoneRead : State → List ℕ → Type 0
HasNoneRead from text = (size : ℕ) → size ≤ length text → kind_from from (take size text) ≡ None

longest_by : (from : State) (text : List ℕ) (front : Front)
    → ((size : ℕ) → front.size < size → size ≤ length text → kind_from from (take size text) ≡ None)
    → (size : ℕ) (token_kind : TokenKind) → size ≤ length text → kind_from from (take size text) ≡ Some token_kind → size ≤ front.size
longest_by from text front none size token_kind within read = elim (cases_lt front.size size) [
  | inl beyond ↦ let bad : None ≡ Some token_kind = sym (none size beyond within) ∙ read in absurd (cc)
  | inr fits ↦ fits
]

same_front : (a b : Front) → ◌≡◌ {A = Option Front} (Some a) (Some b) → a ≡ b
same_front a b h = cc

best_read : (from : State) (text : List ℕ) → kind_in from ≡ None → (result : Option Front) → IsBest from text 0 None result
    → MatchOption result (HasNoneRead from text) (IsLongestRead from text)
best_read from text start None (inl kept) = none_at from text start kept.1
best_read from text start (Some front) (inl kept) = absurd (cc)
best_read from text start None (inr found) = absurd (cc)
best_read from text start (Some front) (inr found) =
    let same : front ≡ record { size = found.0; kind = found.1 } = same_front front _ (found.2 ∙ ap (λ (n : ℕ). Some (record { size = n; kind = found.1 })) (zero-add found.0)) in
    subst (IsLongestRead from text) (sym same) record { within = found.4; read = found.5; longest = longest_by from text (record { size = found.0; kind = found.1 }) found.6 }

pub read_longest : (from : State) (text : List ℕ) → kind_in from ≡ None → MatchOption (best_from from text 0 None) (HasNoneRead from text) (IsLongestRead from text)
read_longest from text start = best_read from text start _ (best_is from text 0 None)
