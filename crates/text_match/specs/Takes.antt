-- The first takes of a wildcard, as a function of the text.
use Rattle.std.specs.Prelude.{ℕ, Bool, List, [], ◌∷◌, length, drop, Option, None, Some, MatchOption, if◌then◌else◌}
use Rattle.std.specs.List.{onto_first}
use Rattle.std.specs.Option.{option_map, option_or}
use Rattle.text_match.specs.Matching.{stands_at_front}
use Rattle.text_match.specs.Wildcards.{IsMatched, First}

-- an empty take and the takes behind the piece, where the text begins with it and `later` finds takes behind it
abbrev pub empty_take : Bool → List ℕ → (List ℕ → Option (List (List ℕ))) → List ℕ → Option (List (List ℕ))
empty_take strict piece later text =
    if stands_at_front strict piece text then option_map (λ takes. [] ∷ takes) (later (drop (length piece) text)) else None

-- the shortest take up to a place of the piece behind which `later` finds takes, and these
abbrev pub shortest_take : Bool → List ℕ → (List ℕ → Option (List (List ℕ))) → List ℕ → Option (List (List ℕ))
shortest_take strict piece later [] = empty_take strict piece later []
shortest_take strict piece later (byte ∷ text) =
    option_or (empty_take strict piece later (byte ∷ text)) (option_map (onto_first byte) (shortest_take strict piece later text))

-- the takes of which a text consists by turns with these pieces: the first as short as can be, then the second, and so on
abbrev pub first_turns : Bool → List (List ℕ) → List ℕ → Option (List (List ℕ))
first_turns strict [] [] = Some []
first_turns strict [] (byte ∷ text) = None
first_turns strict (piece ∷ pieces) text = shortest_take strict piece (first_turns strict pieces) text

-- the first takes of a wildcard with these pieces in a text, if it matches
unfoldable pub first_takes : List (List ℕ) → Bool → List ℕ → Option (List (List ℕ))
first_takes [] strict text = None
first_takes (piece ∷ pieces) strict text =
    if stands_at_front strict piece text then first_turns strict pieces (drop (length piece) text) else None

-- the first takes are those that match and whose lengths are least in dictionary order, and there are none where
-- nothing matches
abbrev pub TakesAreFirst : Type 0
TakesAreFirst =
    (pieces : List (List ℕ)) (strict : Bool) (text : List ℕ) →
    MatchOption (first_takes pieces strict text) (¬ (IsMatched pieces strict text)) (λ takes. First pieces strict text takes)
