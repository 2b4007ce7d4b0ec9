-- Replacements: texts in which `${1}` to `${8}` stand for parts, which are the groups of a match or the takes of a
-- wildcard.
use Rattle.std.specs.Prelude.{ℕ, ◌-◌, Bool, ◌&&◌, ◌==◌, nat_le, if◌then◌else◌, List, [], ◌∷◌, ◌++◌, slice_index_or}
use Rattle.edge_base.specs.Bytes.{dollar, digit_one, digit_eight, open_brace, close_brace}

-- these four bytes read `${n}`, with one digit n from 1 to 8
abbrev pub is_reference : ℕ → ℕ → ℕ → ℕ → Bool
is_reference first second digit last =
    first == dollar && second == open_brace && (nat_le digit_one digit && nat_le digit digit_eight) && last == close_brace

-- the part at a place, or nothing beyond the last
abbrev pub part_at : List (List ℕ) → ℕ → List ℕ
part_at parts place = slice_index_or parts place []

-- a replacement with each `${n}` written as the n-th part; every other byte stands for itself
unfoldable pub filled : List (List ℕ) → List ℕ → List ℕ
filled parts (first ∷ second ∷ digit ∷ last ∷ rest) =
    if is_reference first second digit last then part_at parts (digit - digit_one) ++ filled parts rest
    else first ∷ filled parts (second ∷ digit ∷ last ∷ rest)
filled parts (byte ∷ rest) = byte ∷ filled parts rest
filled parts [] = []
