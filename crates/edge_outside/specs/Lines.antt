-- The lines of a text of bytes.
use Rattle.std.specs.Prelude.{◌≢◌, ℕ, ◌<◌, Bool, true, false, ◌==◌, List, [], ◌∷◌, length, slice_index}
use Rattle.edge_base.specs.Bytes.{newline}

-- a byte in front of these lines: a newline ends an empty line, and any other byte joins the first line
abbrev pub in_front : Bool → ℕ → List (List ℕ) → List (List ℕ)
in_front true byte lines = [] ∷ lines
in_front false byte [] = (byte ∷ []) ∷ []
in_front false byte (line ∷ lines) = (byte ∷ line) ∷ lines

-- the lines of the bytes, without their newlines; the last may lack one, and nothing follows a final newline
abbrev pub lines_of : List ℕ → List (List ℕ)
lines_of [] = []
lines_of (byte ∷ bytes) = in_front (byte == newline) byte (lines_of bytes)

-- no byte is a newline
abbrev pub NoNewline : List ℕ → Type 0
NoNewline bytes = (k : ℕ) → k < length bytes → slice_index bytes k ≢ newline

-- some byte is a newline
abbrev pub HasNewline : List ℕ → Type 0
HasNewline bytes = ¬ NoNewline bytes
