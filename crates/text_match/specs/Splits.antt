-- Working vocabulary, which no public clause cites: where the pieces of a wildcard stand in a text, one by one.
use Rattle.std.specs.Prelude.{ℕ, ◌≤◌, Bool, List, [], Option, length, map, MatchOption}
use Rattle.std.specs.Borrow.{Bor}
use Rattle.text_match.specs.declared.splitting.Split.{Split}
use Rattle.text_match.specs.Wildcards.{IsSplit, AreTurns, AreLeast}

-- what stands after a piece with which the text begins, if it does
abbrev pub IsAfterFront : Bool → List ℕ → List ℕ → Option (Bor (List ℕ)) → Type 0
IsAfterFront strict piece text found =
    MatchOption found ((after : List ℕ) → ¬ (IsSplit strict piece text [] after)) (λ after. IsSplit strict piece text [] after.now)

-- what stands before a piece with which the text ends, if it does
abbrev pub IsBeforeEnd : Bool → List ℕ → List ℕ → Option (Bor (List ℕ)) → Type 0
IsBeforeEnd strict piece text found =
    MatchOption found ((before : List ℕ) → ¬ (IsSplit strict piece text before [])) (λ before. IsSplit strict piece text before.now [])

-- the piece stands nowhere in the text
abbrev pub IsNowhere : Bool → List ℕ → List ℕ → Type 0
IsNowhere strict piece text = (before after : List ℕ) → ¬ (IsSplit strict piece text before after)

-- the text is split at the first place of the piece
pub record IsFirstSplit (strict : Bool) (piece text before after : List ℕ) : Type 0 where
  pub is_split : IsSplit strict piece text before after
  pub is_first : (others more : List ℕ) → IsSplit strict piece text others more → length before ≤ length others

-- the split at the first place of the piece, if it stands anywhere
abbrev pub IsFirstFound : Bool → List ℕ → List ℕ → Option Split → Type 0
IsFirstFound strict piece text found =
    MatchOption found (IsNowhere strict piece text) (λ split. IsFirstSplit strict piece text split.before.now split.after.now)

-- the text is takes and these pieces by turns
abbrev pub HasTurns : Bool → List (List ℕ) → List ℕ → Type 0
HasTurns strict pieces text = (takes : List (List ℕ)) × AreTurns strict pieces text takes

-- the takes, by turns with these pieces, whose lengths are least in dictionary order
pub record AreFirstTurns (strict : Bool) (pieces : List (List ℕ)) (text : List ℕ) (takes : List (List ℕ)) : Type 0 where
  pub are_turns : AreTurns strict pieces text takes
  pub are_least : AreLeast takes (AreTurns strict pieces text)

-- the first takes by turns with these pieces, if there are any
abbrev pub AreFirstFound : Bool → List (List ℕ) → List ℕ → Option (List (List ℕ)) → Type 0
AreFirstFound strict pieces text found =
    MatchOption found (¬ (HasTurns strict pieces text)) (λ takes. AreFirstTurns strict pieces text takes)
