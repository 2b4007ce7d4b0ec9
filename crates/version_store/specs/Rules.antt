-- The rule of the book in which the published list grows, and what its step tells.
use Rattle.std.specs.Prelude.{◌≡◌, ℕ, ◌+◌, ◌==◌, true, List, [], ◌∷◌, ◌++◌, length, MatchBool}
use Rattle.logbook.specs.Pages.{Cell, Step, View, Book, Named}
use Rattle.version_store.specs.declared.notice.Notice.{Notice}

-- the book has one word, which counts the notices after the opening one
pub record IsKept (cells : List Cell) (notices : List Notice) : Type 0 where
  pub count : ℕ
  pub words : cells ≡ (count, true) ∷ []
  pub counted : length notices ≡ count + 1

-- that word
abbrev pub head_of : Book → Named
head_of book = record { tracked = true; key = 0; book = book }

-- where the word is as it was expected to be, the notice was added to all that had been seen
abbrev pub Adds : Step Notice → View Notice ℕ → ℕ → View Notice ℕ → Type 0
Adds step seen found now = MatchBool (found == step.old) (now.0 ≡ seen.0 ++ step.ask ∷ []) (Unit {0})
