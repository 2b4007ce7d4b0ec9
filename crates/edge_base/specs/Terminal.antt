-- Which token is which terminal: a word and its sign are one, and so are a text and a raw text.
use Rattle.std.specs.Prelude.{◌≡◌, ℕ, cond, List, [], ◌∷◌, ◌++◌, codes, bytes_eq, Option, Some, None, option_map}
use Rattle.edge_base.specs.declared.address.Addr.{Addr}
use Rattle.edge_base.specs.declared.terminal.Terminal.{Terminal}
use Rattle.edge_base.specs.declared.terminal.Terminal.TheVariants as terminal
use Rattle.edge_base.specs.declared.token.TokenKind.{TokenKind}
use Rattle.edge_base.specs.declared.token.TokenKind.TheVariants as kind
use Rattle.edge_base.specs.Address.{IsAddrText}
use Rattle.edge_base.specs.Spellings.{Spelling, reserved_words, symbols}
use Rattle.edge_base.specs.Token.{number_of, quoted_text_of, raw_text_of, list_name_of, IsBlockText, Word}

-- the terminal that is spelled so
abbrev pub spelled : List Spelling → List ℕ → Option Terminal
spelled [] text = None
spelled (s ∷ rest) text = cond (bytes_eq text s.spelling) (Some s.stands_for) (spelled rest text)

-- the terminal of a reserved word
abbrev pub reserved : List ℕ → Option Terminal
reserved text = spelled reserved_words text

-- the terminal of a symbol
abbrev pub symbol : List ℕ → Option Terminal
symbol text = spelled symbols text

-- a token of this kind with this spelling is the terminal
abbrev pub IsTerminalOf : TokenKind → List ℕ → Terminal → Type 0
IsTerminalOf kind.Name text t = t ≡ terminal.Name text
IsTerminalOf kind.Reserved text t = reserved text ≡ Some t
IsTerminalOf kind.Number text t = option_map terminal.Number (number_of text) ≡ Some t
IsTerminalOf kind.Address text t = (addr : Addr) × IsAddrText text addr × (t ≡ terminal.Address addr)
IsTerminalOf kind.Block text t = (addr : Addr) × (bits : ℕ) × IsBlockText text addr bits × (t ≡ terminal.Block addr bits)
IsTerminalOf kind.Text text t = option_map terminal.Text (quoted_text_of text) ≡ Some t
IsTerminalOf kind.RawText text t = option_map terminal.Text (raw_text_of text) ≡ Some t
IsTerminalOf kind.ListName text t = option_map terminal.ListName (list_name_of text) ≡ Some t
IsTerminalOf kind.Symbol text t = symbol text ≡ Some t

abbrev pub IsTerminal : Word → Terminal → Type 0
IsTerminal word t = IsTerminalOf word.kind word.spelling t

-- the terminals are those of the words, one for each
abbrev pub AreTerminals : List Word → List Terminal → Type 0
AreTerminals [] [] = Unit {0}
AreTerminals [] (t ∷ ts) = ⊥
AreTerminals (word ∷ words) [] = ⊥
AreTerminals (word ∷ words) (t ∷ ts) = IsTerminal word t × AreTerminals words ts
