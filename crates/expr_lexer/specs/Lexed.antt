-- What the answers of the lexer say.
use Rattle.std.specs.Prelude.{ℕ, ◌<◌, ◌≤◌, List, length, ⊤}
use Rattle.edge_base.specs.declared.token.Token.{Token}
use Rattle.edge_base.specs.Cut.{IsCut, IsFirstFault}
use Rattle.expr_lexer.specs.declared.tokens.LexFault.{LexFault}
use Rattle.expr_lexer.specs.declared.tokens.LexFault.TheVariants as fault

-- a token has a byte, and ends within the text
abbrev pub IsInside : List ℕ → Token → Type 0
IsInside text token = (token.start < token.end) × (token.end ≤ length text)

-- a refused text has no cut, and its first fault is at the place named; want of memory says nothing
abbrev pub IsLexFault : List ℕ → LexFault → Type 0
IsLexFault text (fault.Lex at) = IsFirstFault text at × ((tokens : List Token) → ¬ (IsCut text tokens))
IsLexFault text fault.Memory = ⊤
