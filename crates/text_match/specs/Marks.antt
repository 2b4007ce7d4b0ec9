-- Working vocabulary, which no public clause cites: how a wildcard and a replacement go on from their first mark.
use Rattle.std.specs.Prelude.{◌≡◌, ℕ, List, [], ◌∷◌, ◌++◌, Option, None, Some, MatchOption}
use Rattle.std.specs.Borrow.{Bor}
use Rattle.text_match.specs.declared.reading.Mark.{Mark}
use Rattle.text_match.specs.declared.reading.Mark.TheVariants.{Byte, Star}
use Rattle.text_match.specs.declared.replacement.Piece.{Piece}
use Rattle.text_match.specs.declared.replacement.Piece.TheVariants as piece
use Rattle.text_match.specs.Replacement.{part_at, filled}
use Rattle.text_match.specs.Wildcards.{fault_of, onto_first, pieces_of}

-- the fault of the pattern is that of its rest
abbrev pub IsFaultOf : List ℕ → List ℕ → Type 0
IsFaultOf pattern rest = fault_of pattern ≡ fault_of rest

-- the pattern is the mark and then the rest
abbrev pub GoesOn : List ℕ → Mark → List ℕ → Type 0
GoesOn pattern (Byte byte) rest = pieces_of pattern ≡ onto_first byte (pieces_of rest)
GoesOn pattern Star rest = pieces_of pattern ≡ [] ∷ pieces_of rest

-- the pieces of what stands after a star, if there is one
abbrev pub pieces_left : Option (Bor (List ℕ)) → List (List ℕ)
pieces_left None = []
pieces_left (Some pattern) = pieces_of pattern.now

-- the pattern begins with this piece, and the others are those of the rest behind a star, if there is one
abbrev pub BeginsWith : List ℕ → List ℕ → Option (Bor (List ℕ)) → Type 0
BeginsWith pattern piece left =
    MatchOption left (pieces_of pattern ≡ piece ∷ []) (λ rest. pieces_of pattern ≡ piece ∷ pieces_of rest.now)

-- the replacement is the piece and then the rest, whatever the parts are
abbrev pub FillsOn : List ℕ → Piece → List ℕ → Type 0
FillsOn replacement (piece.Byte byte) rest =
    (parts : List (List ℕ)) → filled parts replacement ≡ byte ∷ filled parts rest
FillsOn replacement (piece.Part place) rest =
    (parts : List (List ℕ)) → filled parts replacement ≡ part_at parts place ++ filled parts rest
