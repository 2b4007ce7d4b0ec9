-- How a printed text falls into tokens, seen by their terminals.
use Rattle.std.specs.Prelude.{◌≡◌, ℕ, ◌==◌, ◌||◌, Bool, true, List, [], ◌∷◌, ◌++◌, length, IsTrue, Some}
use Rattle.edge_base.specs.declared.terminal.Terminal.{Terminal}
use Rattle.edge_base.specs.declared.terminal.Terminal.TheVariants as terminal
use Rattle.edge_base.specs.declared.token.TokenKind.{TokenKind}
use Rattle.edge_base.specs.declared.token.TokenKind.TheVariants as kind
use Rattle.edge_base.specs.Address.{IsAddrText}
use Rattle.edge_base.specs.Token.{is_blank_byte, number_of, list_name_of, IsBlockText, IsTokenOf}
use Rattle.edge_base.specs.Cut.{IsLongest, may_stand_before}
use Rattle.edge_base.specs.Terminal.{IsTerminalOf}

-- a byte at which each token ends that is none in quotes: a blank, the comma, `(`, `)`, `[` and `]`
abbrev pub is_end_byte : ℕ → Bool
is_end_byte byte = is_blank_byte byte || byte == 40 || byte == 41 || byte == 44 || byte == 91 || byte == 93

-- the text is at its end, or goes on with such a byte
abbrev pub ends_before : List ℕ → Bool
ends_before [] = true
ends_before (byte ∷ rest) = is_end_byte byte

-- the text is a token of this kind and stands for this terminal; before this rest it is the longest one, and the
-- rest may follow it
pub record StandsFor (k : TokenKind) (text rest : List ℕ) (t : Terminal) : Type 0 where
  pub longest : IsLongest (text ++ rest) (length text) k
  pub neighbour : IsTrue (may_stand_before k rest)
  pub is_terminal : IsTerminalOf k text t

-- what a terminal of some token has for a value
abbrev pub IsSound : Terminal → Type 0
IsSound (terminal.Name name) = IsTokenOf kind.Name name
IsSound (terminal.Number n) = (text : List ℕ) × (number_of text ≡ Some n)
IsSound (terminal.Address a) = (text : List ℕ) × IsAddrText text a
IsSound (terminal.Block a bits) = (text : List ℕ) × IsBlockText text a bits
IsSound (terminal.ListName name) = list_name_of (36 ∷ name) ≡ Some name
IsSound t = Unit {0}

abbrev pub AreSound : List Terminal → Type 0
AreSound [] = Unit {0}
AreSound (t ∷ ts) = IsSound t × AreSound ts

-- the text falls into tokens of these terminals, with blanks between them
pub data IsCutInto : List ℕ → List Terminal → Type 0 where
  cut_end : IsCutInto [] []
  cut_blank : {byte : ℕ} {rest : List ℕ} {ts : List Terminal} → is_blank_byte byte ≡ true → IsCutInto rest ts → IsCutInto (byte ∷ rest) ts
  cut_token : {k : TokenKind} {text rest : List ℕ} {t : Terminal} {ts : List Terminal} → StandsFor k text rest t → IsCutInto rest ts → IsCutInto (text ++ rest) (t ∷ ts)

-- the text falls into tokens of these terminals wherever a rest follows at which it ends
abbrev pub IsWritten : List ℕ → List Terminal → Type 0
IsWritten text ts = (rest : List ℕ) (us : List Terminal) → ends_before rest ≡ true → IsCutInto rest us → IsCutInto (text ++ rest) (ts ++ us)
