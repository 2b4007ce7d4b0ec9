-- How a text of the Rules language falls into tokens, and where it doesn't.
use Rattle.std.specs.Prelude.{◌≡◌, ℕ, ◌-◌, ◌<◌, ◌≤◌, Bool, true, false, not, ◌&&◌, List, [], ◌∷◌, length, take, drop, slice_index, IsTrue, IsFalse}
use Rattle.std.specs.List.{list_all, between}
use Rattle.edge_base.specs.declared.token.Token.{Token}
use Rattle.edge_base.specs.declared.token.TokenKind.{TokenKind}
use Rattle.edge_base.specs.declared.token.TokenKind.TheVariants as kind
use Rattle.edge_base.specs.Token.{is_blank_byte, is_word_byte, IsTokenOf}

-- the longest front of a text that is a token, of `size` bytes, and its kind
pub record IsLongest (text : List ℕ) (size : ℕ) (token_kind : TokenKind) : Type 0 where
  pub within : size ≤ length text
  pub is_token : IsTokenOf token_kind (take size text)
  pub longest : (other : ℕ) (other_kind : TokenKind) → other ≤ length text → IsTokenOf other_kind (take other text) → other ≤ size

-- names, numbers, addresses, blocks and list names stand apart from letters, digits and `_`
abbrev pub stands_apart : TokenKind → Bool
stands_apart kind.Name = true
stands_apart kind.Reserved = false
stands_apart kind.Number = true
stands_apart kind.Address = true
stands_apart kind.Block = true
stands_apart kind.Text = false
stands_apart kind.RawText = false
stands_apart kind.ListName = true
stands_apart kind.Symbol = false

-- a token of this kind may be followed directly by this rest of a text
abbrev pub may_stand_before : TokenKind → List ℕ → Bool
may_stand_before token_kind [] = true
may_stand_before token_kind (byte ∷ rest) = not (stands_apart token_kind && is_word_byte byte)

-- the token is the longest one at its place, and what follows it doesn't break the rule on neighbours
pub record IsTokenAt (text : List ℕ) (token : Token) : Type 0 where
  pub in_order : token.start ≤ token.end
  pub is_longest : IsLongest (drop token.start text) (token.end - token.start) token.kind
  pub neighbour : IsTrue (may_stand_before token.kind (drop token.end text))

-- the text from one place to another holds these tokens in order, and only blanks between them
abbrev pub IsCutBetween : List ℕ → ℕ → ℕ → List Token → Type 0
IsCutBetween text start end [] = (start ≤ end) × IsTrue (list_all is_blank_byte (between start end text))
IsCutBetween text start end (token ∷ tokens) =
    (start ≤ token.start) × IsTrue (list_all is_blank_byte (between start token.start text))
    × IsTokenAt text token × IsCutBetween text token.end end tokens

-- the tokens cut the whole text
abbrev pub IsCut : List ℕ → List Token → Type 0
IsCut text tokens = IsCutBetween text 0 (length text) tokens

-- the text is cut up to this place, at which there is no blank and no token
pub record IsFirstFault (text : List ℕ) (at : ℕ) : Type 0 where
  pub before : List Token
  pub is_cut : IsCutBetween text 0 at before
  pub within : at < length text
  pub no_blank : IsFalse (is_blank_byte (slice_index text at))
  pub no_token : (token : Token) → token.start ≡ at → ¬ (IsTokenAt text token)

-- a text has at most one cut
abbrev pub CutsAreUnique : Type 0
CutsAreUnique = (text : List ℕ) (tokens others : List Token) → IsCut text tokens → IsCut text others → tokens ≡ others

-- a text with a place of fault has no other, and no cut
abbrev pub FaultsAreUnique : Type 0
FaultsAreUnique =
    (text : List ℕ) (at : ℕ) → IsFirstFault text at
    → ((tokens : List Token) → ¬ (IsCut text tokens)) × ((other : ℕ) → IsFirstFault text other → at ≡ other)

-- a text without a cut has a place of fault
abbrev pub UncutHaveFaults : Type 0
UncutHaveFaults = (text : List ℕ) → ((tokens : List Token) → ¬ (IsCut text tokens)) → (at : ℕ) × IsFirstFault text at
