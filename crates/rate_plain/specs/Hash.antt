-- The 64-bit FNV-1a hash of a list of bytes.
use Rattle.std.specs.Prelude.{ℕ, ◌*◌, ◌%◌, ◌^◌, List, bit_xor}
use Rattle.std.specs.List.{fold}

-- the hash with one byte more
abbrev pub hash_step : ℕ → ℕ → ℕ
hash_step hash byte = (bit_xor hash byte * 1099511628211) % 2 ^ 64

-- the hash of a front, gone on with these bytes
abbrev pub fnv1a64_on : ℕ → List ℕ → ℕ
fnv1a64_on front bytes = fold hash_step front bytes

-- the hash of these bytes
abbrev pub fnv1a64_of : List ℕ → ℕ
fnv1a64_of bytes = fnv1a64_on 14695981039346656037 bytes
