-- A key whose bytes were worked out by hand, for the tests.
use Rattle.std.specs.Prelude.{ℕ, List, [], ◌∷◌, codes}
use Rattle.rate_plain.specs.KeyParts.{KeyParts}

-- 2 in 10 s with a timeout of 60 s, by `ip.src` 10.0.0.1
abbrev pub worked_key : KeyParts
worked_key = record {
  rule = record { set_id = codes "rl"; rule = codes "r1" };
  period = 10000;
  threshold = 2;
  timeout = 60000;
  values = 3 ∷ 0 ∷ 0 ∷ 0 ∷ 4 ∷ 10 ∷ 0 ∷ 0 ∷ 1 ∷ [];
}

-- its bytes
abbrev pub worked_bytes : List ℕ
worked_bytes =
    0x72 ∷ 0x6c ∷ 0 ∷ 0x72 ∷ 0x31 ∷ 0
    ∷ 0 ∷ 0 ∷ 0 ∷ 0 ∷ 0 ∷ 0 ∷ 0x27 ∷ 0x10
    ∷ 0 ∷ 0 ∷ 0 ∷ 0 ∷ 0 ∷ 0 ∷ 0 ∷ 2
    ∷ 0 ∷ 0 ∷ 0 ∷ 0 ∷ 0 ∷ 0 ∷ 0xea ∷ 0x60
    ∷ 3 ∷ 0 ∷ 0 ∷ 0 ∷ 4 ∷ 10 ∷ 0 ∷ 0 ∷ 1 ∷ []
