-- Whether a text matches a wildcard or holds another text.
use Rattle.std.specs.Prelude.{ℕ, Bool, false, ◌||◌, nat_eq, if◌then◌else◌, List, [], ◌∷◌, length, take, drop, Option, None, Some, bytes_eq}
use Rattle.std.specs.List.{starts_with}
use Rattle.std.specs.Option.{option_map_or}
use Rattle.text_match.specs.Wildcards.{compared}

-- whether some end of a text passes the test, the whole text and the empty one among them
abbrev pub has_end : (List ℕ → Bool) → List ℕ → Bool
has_end test [] = test []
has_end test (byte ∷ text) = test (byte ∷ text) || has_end test text

-- whether a text holds another in a row
abbrev pub has_part : List ℕ → List ℕ → Bool
has_part text part = has_end (λ rest. starts_with nat_eq rest part) text

-- whether a text begins with a piece
abbrev pub stands_at_front : Bool → List ℕ → List ℕ → Bool
stands_at_front strict piece text = bytes_eq (compared strict (take (length piece) text)) (compared strict piece)

-- what stands after the piece in a text that begins with it
abbrev pub after_piece : Bool → List ℕ → List ℕ → Option (List ℕ)
after_piece strict piece text = if stands_at_front strict piece text then Some (drop (length piece) text) else None

-- whether the text is a take and then a piece, for each of the pieces by turns, up to its end
abbrev pub are_turns : Bool → List (List ℕ) → List ℕ → Bool
are_turns strict [] text = bytes_eq text []
are_turns strict (piece ∷ pieces) text =
    has_end (λ rest. option_map_or (are_turns strict pieces) (after_piece strict piece rest) false) text

-- whether the text is the pieces of a wildcard with something between each two, strictly or with ASCII case ignored
abbrev pub is_matched : List (List ℕ) → Bool → List ℕ → Bool
is_matched [] strict text = false
is_matched (piece ∷ pieces) strict text = option_map_or (are_turns strict pieces) (after_piece strict piece text) false
