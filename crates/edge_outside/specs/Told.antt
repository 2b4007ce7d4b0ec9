-- What reads and writes do to the bytes that a source and a sink tell.
use Rattle.std.specs.Prelude.{ℕ, ◌<◌, List, length, take, Option, Result, MatchResult}
use Rattle.std.specs.Io.KnownBytes.{Appends, Consumes, Keeps}

-- a read of n bytes adds the n bytes that it gave, and a failed one nothing
abbrev pub ReadAdds : {E : Type 0} → Option (List ℕ) → Option (List ℕ) → Result ℕ E → List ℕ → Type 0
ReadAdds before now result into = MatchResult result (λ n. Appends before now (take n into)) (λ _. Keeps before now)

-- reads gave these bytes: what a source has left lost them, and what was taken of it gained them
abbrev pub Gave : {S : Type 0} → (S → Option (List ℕ)) → (S → Option (List ℕ)) → S → S → List ℕ → Type 0
Gave left taken before now bytes = Consumes (left before) (left now) bytes × Appends (taken before) (taken now) bytes

-- a front of the bytes was written, but not all of them
abbrev pub AppendsFront : Option (List ℕ) → Option (List ℕ) → List ℕ → Type 0
AppendsFront before now bytes = (count : ℕ) × (count < length bytes) × Appends before now (take count bytes)
