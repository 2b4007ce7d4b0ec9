-- Which keys are the same, the bytes of a key, and its lane.
use Rattle.std.specs.Prelude.{ℕ, ◌%◌, Bool, ◌&&◌, ◌==◌, List, [], ◌∷◌, ◌++◌, bytes_eq}
use Rattle.std.specs.Int.{to_be_bytes}
use Rattle.rate_plain.specs.KeyParts.{KeyParts}
use Rattle.rate_plain.specs.Hash.{fnv1a64_of}
use Rattle.std.specs.Int.{w64}

-- the two keys are equal in each part
abbrev pub same_key : KeyParts → KeyParts → Bool
same_key a b =
    bytes_eq a.rule.set_id b.rule.set_id && bytes_eq a.rule.rule b.rule.rule
    && a.period == b.period && a.threshold == b.threshold && a.timeout == b.timeout && bytes_eq a.values b.values

-- the bytes of a key: the two ids, each ended by a byte 0, the three numbers, and the values
abbrev pub key_bytes : KeyParts → List ℕ
key_bytes key =
    key.rule.set_id ++ 0 ∷ [] ++ key.rule.rule ++ 0 ∷ []
    ++ to_be_bytes w64 key.period ++ to_be_bytes w64 key.threshold ++ to_be_bytes w64 key.timeout ++ key.values

-- the lane of a key, of so many lanes
abbrev pub lane_of_key : ℕ → KeyParts → ℕ
lane_of_key lanes key = fnv1a64_of (key_bytes key) % lanes
