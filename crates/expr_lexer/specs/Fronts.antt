-- Working vocabulary, which no public clause cites.
-- The longest token at the front of a text, among some kinds.
use Rattle.std.specs.Prelude.{◌≡◌, ℕ, ◌+◌, ◌<◌, ◌≤◌, Bool, true, false, cond, nat_lt, List, [], ◌∷◌, length, take, Option, Some, None, MatchOption}
use Rattle.edge_base.specs.declared.token.Token.{Token}
use Rattle.edge_base.specs.declared.token.TokenKind.{TokenKind}
use Rattle.edge_base.specs.declared.token.TokenKind.TheVariants as kind
use Rattle.edge_base.specs.Cut.{IsTokenAt}
use Rattle.edge_base.specs.Token.{is_reserved, IsTokenOf}
use Rattle.expr_lexer.specs.declared.scanner.State.{State}
use Rattle.expr_lexer.specs.declared.fronts.Front.{Front}
use Rattle.expr_lexer.specs.Scan.{next_of, kind_in, with_next}

-- the front that ends here, or else the best so far
abbrev pub better : Option TokenKind → ℕ → Option Front → Option Front
better None size best = best
better (Some token_kind) size best = Some (record { size = size; kind = token_kind })

-- the longest token that is read from a state on
abbrev pub best_from : State → List ℕ → ℕ → Option Front → Option Front
best_from from [] at best = best
best_from from (byte ∷ text) at best =
    with_next (next_of from byte) best (λ next. best_from next text (at + 1) (better (kind_in next) (at + 1) best))

abbrev pub is_address : TokenKind → Bool
is_address kind.Address = true
is_address token_kind = false

abbrev pub is_block : TokenKind → Bool
is_block kind.Block = true
is_block token_kind = false

-- neither an address nor a block
abbrev pub is_scanned : TokenKind → Bool
is_scanned kind.Address = false
is_scanned kind.Block = false
is_scanned token_kind = true

abbrev pub kind_of_name : TokenKind → List ℕ → TokenKind
kind_of_name kind.Name text = cond (is_reserved text) kind.Reserved kind.Name
kind_of_name token_kind text = token_kind

abbrev pub longer_of : Option Front → Option Front → Option Front
longer_of None other = other
longer_of (Some front) None = Some front
longer_of (Some front) (Some more) = cond (nat_lt front.size more.size) (Some more) (Some front)

-- no token of these kinds stands at the front
abbrev pub HasNoneAmong : (TokenKind → Bool) → List ℕ → Type 0
HasNoneAmong among text = (size : ℕ) (token_kind : TokenKind) → among token_kind ≡ true → size ≤ length text → ¬ (IsTokenOf token_kind (take size text))

-- no token stands at the front
abbrev pub HasNoToken : List ℕ → Type 0
HasNoToken text = (size : ℕ) (token_kind : TokenKind) → size ≤ length text → ¬ (IsTokenOf token_kind (take size text))

-- a token at the front, at least as long as each of these kinds
pub record IsAtLeast (among : TokenKind → Bool) (text : List ℕ) (front : Front) : Type 0 where
  pub within : front.size ≤ length text
  pub is_token : IsTokenOf front.kind (take front.size text)
  pub longest : (other : ℕ) (other_kind : TokenKind) → among other_kind ≡ true → other ≤ length text → IsTokenOf other_kind (take other text) → other ≤ front.size

-- the longest token of these kinds, where there is one
abbrev pub IsLongestAmong : (TokenKind → Bool) → List ℕ → Option Front → Type 0
IsLongestAmong among text found = MatchOption found (HasNoneAmong among text) (IsAtLeast among text)

-- the token that stands at a place of the text, where one does
abbrev pub IsFoundAt : List ℕ → ℕ → Option Token → Type 0
IsFoundAt text at found =
    MatchOption found ((token : Token) → token.start ≡ at → ¬ (IsTokenAt text token))
    (λ token. (token.start ≡ at) × (at < token.end) × (token.end ≤ length text) × IsTokenAt text token)
