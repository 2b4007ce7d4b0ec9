-- Wildcards: how a pattern is read, what it matches, and what its stars stand for.
use Rattle.std.specs.Prelude.{◌≡◌, ℕ, ◌<◌, Bool, if◌then◌else◌, ◌==◌, ◌&&◌, ◌||◌, Option, None, Some, List, [], ◌∷◌, ◌++◌, length, map, ◌⊎◌, MatchOption}
use Rattle.std.specs.Char.{to_ascii_lowercase}
use Rattle.edge_base.specs.Bytes.{star, backslash}
use Rattle.text_match.specs.declared.reading.WildFault.{WildFault}
use Rattle.text_match.specs.declared.reading.WildFault.TheVariants.{DoubleStar, BadEscape}

-- the first fault of a pattern: two stars in a row, or a `\` that escapes neither `*` nor `\`
unfoldable pub fault_of : List ℕ → Option WildFault
fault_of [] = None
fault_of (byte ∷ []) = if byte == backslash then Some BadEscape else None
fault_of (byte ∷ next ∷ rest) =
    if byte == backslash then (if next == star || next == backslash then fault_of rest else Some BadEscape)
    else if byte == star && next == star then Some DoubleStar
    else fault_of (next ∷ rest)

-- the pattern has this fault first
abbrev pub HasFault : List ℕ → WildFault → Type 0
HasFault pattern fault = fault_of pattern ≡ Some fault

-- a byte in front of the first of some pieces
abbrev pub onto_first : ℕ → List (List ℕ) → List (List ℕ)
onto_first byte [] = (byte ∷ []) ∷ []
onto_first byte (piece ∷ pieces) = (byte ∷ piece) ∷ pieces

-- the pieces of a pattern without a fault: what stands before, between and after its stars, with escapes taken off
unfoldable pub pieces_of : List ℕ → List (List ℕ)
pieces_of [] = [] ∷ []
pieces_of (byte ∷ []) = if byte == star then [] ∷ [] ∷ [] else (byte ∷ []) ∷ []
pieces_of (byte ∷ next ∷ rest) =
    if byte == backslash then onto_first next (pieces_of rest)
    else if byte == star then [] ∷ pieces_of (next ∷ rest)
    else onto_first byte (pieces_of (next ∷ rest))

-- a text as it is compared: strictly as it stands, else with ASCII case ignored
abbrev pub compared : Bool → List ℕ → List ℕ
compared strict text = if strict then text else map to_ascii_lowercase text

-- the text is `before`, then the piece, then `after`
pub record IsSplit (strict : Bool) (piece text before after : List ℕ) : Type 0 where
  pub found : List ℕ
  pub is_text : text ≡ before ++ (found ++ after)
  pub is_piece : compared strict found ≡ compared strict piece

-- the text is a take and then a piece, for each of the pieces by turns, up to its end
abbrev pub AreTurns : Bool → List (List ℕ) → List ℕ → List (List ℕ) → Type 0
AreTurns strict [] text [] = text ≡ []
AreTurns strict [] text (taken ∷ takes) = ⊥
AreTurns strict (piece ∷ pieces) text [] = ⊥
AreTurns strict (piece ∷ pieces) text (taken ∷ takes) =
    (rest : List ℕ) × IsSplit strict piece text taken rest × AreTurns strict pieces rest takes

-- the text is the pieces joined by the takes, in order
abbrev pub Match : List (List ℕ) → Bool → List ℕ → List (List ℕ) → Type 0
Match [] strict text takes = ⊥
Match (piece ∷ pieces) strict text takes =
    (rest : List ℕ) × IsSplit strict piece text [] rest × AreTurns strict pieces rest takes

-- some takes match
abbrev pub IsMatched : List (List ℕ) → Bool → List ℕ → Type 0
IsMatched pieces strict text = (takes : List (List ℕ)) × Match pieces strict text takes

-- a list of lengths is not after another in dictionary order
abbrev pub IsNoLater : List ℕ → List ℕ → Type 0
IsNoLater [] others = Unit {0}
IsNoLater (n ∷ lengths) [] = ⊥
IsNoLater (n ∷ lengths) (m ∷ others) = (n < m) ⊎ ((n ≡ m) × IsNoLater lengths others)

-- no others that are so have lengths that come before these in dictionary order
abbrev pub AreLeast : List (List ℕ) → (List (List ℕ) → Type 0) → Type 0
AreLeast takes AreSo = (others : List (List ℕ)) → AreSo others → IsNoLater (map length takes) (map length others)

-- the first takes: those that match and whose lengths are least in dictionary order
pub record First (pieces : List (List ℕ)) (strict : Bool) (text : List ℕ) (takes : List (List ℕ)) : Type 0 where
  pub is_match : Match pieces strict text takes
  pub is_least : AreLeast takes (Match pieces strict text)

-- the first takes where some match, else none
abbrev pub IsFirst : List (List ℕ) → Bool → List ℕ → Option (List (List ℕ)) → Type 0
IsFirst pieces strict text found =
    MatchOption found (¬ (IsMatched pieces strict text)) (λ takes. First pieces strict text takes)

-- a wildcard has no more than one list of first takes in a text
abbrev pub FirstTakesAreUnique : Type 0
FirstTakesAreUnique =
    (pieces : List (List ℕ)) (strict : Bool) (text : List ℕ) (takes others : List (List ℕ)) →
    First pieces strict text takes → First pieces strict text others → takes ≡ others
