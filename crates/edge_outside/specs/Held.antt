-- Working vocabulary, which no public clause cites.
-- What the buffer of a line reader holds, and what it means that a line was cut off it.
use Rattle.std.specs.Prelude.{◌≡◌, ℕ, ◌^◌, ◌≤◌, List, [], ◌∷◌, ◌++◌, length}
use Rattle.edge_outside.specs.Lines.{NoNewline}
use Rattle.edge_base.specs.Bytes.{newline}

-- the line that was cut last; of the bytes after it, those looked at, which have no newline, and those not looked at
pub record Held : Type 0 where
  pub line : List ℕ
  pub begun : List ℕ
  pub rest : List ℕ

-- the line up to the first newline was cut
pub record Cut (before now : Held) : Type 0 where
  pub piece : List ℕ
  pub is_rest : before.rest ≡ piece ++ newline ∷ now.rest
  pub is_line : now.line ≡ before.begun ++ piece
  pub is_begun : now.begun ≡ []
  pub no_newline : NoNewline now.line
  pub fits : length now.line ≤ 2 ^ 20

-- there was no newline, and all was looked at
pub record Looked (before now : Held) : Type 0 where
  pub is_begun : now.begun ≡ before.begun ++ before.rest
  pub is_rest : now.rest ≡ []
  pub no_newline : NoNewline now.begun
