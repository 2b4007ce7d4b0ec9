-- The map that some pairs of a key and a value make.
use Rattle.std.specs.Prelude.{ℕ, not, if◌then◌else◌, List, [], ◌∷◌, ◌++◌, map, filter, bytes_eq}
use Rattle.std.specs.Map.{keys_of}

-- the texts in order of first appearance, each once
abbrev pub distinct_of : List (List ℕ) → List (List ℕ)
distinct_of [] = []
distinct_of (text ∷ texts) = text ∷ filter (λ other. not (bytes_eq text other)) (distinct_of texts)

-- the values of a key, in order
abbrev pub values_at : List ℕ → List (List ℕ × List ℕ) → List (List ℕ)
values_at key pairs = map (λ pair. pair.1) (filter (λ pair. bytes_eq key pair.0) pairs)

-- the map of some pairs: their keys in order of first appearance, each with its values in order
abbrev pub map_of : List (List ℕ × List ℕ) → List (List ℕ × List (List ℕ))
map_of pairs = map (λ key. (key, values_at key pairs)) (distinct_of (keys_of pairs))

-- a map with one more value at the end of those of a key, and a new key last
abbrev pub with_value : List (List ℕ × List (List ℕ)) → List ℕ → List ℕ → List (List ℕ × List (List ℕ))
with_value [] key value = (key, value ∷ []) ∷ []
with_value (entry ∷ entries) key value =
    if bytes_eq key entry.0 then (entry.0, entry.1 ++ value ∷ []) ∷ entries
    else entry ∷ with_value entries key value
