-- How a pattern is read from its front.
use Rattle.std.proofs.Common.{◌≡◌, ℕ, List, [], ◌∷◌, ◌++◌, refl, ap}
use Rattle.text_match.specs.Wildcards.{onto_first}

-- the start of the first piece, put before the rest of it and the other pieces
abbrev pub after_start : List ℕ → List (List ℕ) → List (List ℕ)
after_start [] pieces = pieces
after_start (byte ∷ start) pieces = onto_first byte (after_start start pieces)

-- a byte more in the start
pub after_start_more : (start : List ℕ) (byte : ℕ) (pieces : List (List ℕ)) → after_start (start ++ byte ∷ []) pieces ≡ after_start start (onto_first byte pieces)
after_start_more [] byte pieces = refl
after_start_more (first ∷ start) byte pieces = ap (onto_first first) (after_start_more start byte pieces)

-- a star after the start
pub after_start_star : (start : List ℕ) (pieces : List (List ℕ)) → after_start start ([] ∷ pieces) ≡ start ∷ pieces
after_start_star [] pieces = refl
after_start_star (byte ∷ start) pieces = ap (onto_first byte) (after_start_star start pieces)
