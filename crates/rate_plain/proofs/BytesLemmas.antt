-- The bytes of a key can be read back.
use Rattle.std.proofs.Common.{◌≡◌, ◌≢◌, ℕ, ◌<◌, ◌^◌, List, [], ◌∷◌, ◌++◌, All, get_or, take, drop, refl, sym, ap, ◌∙◌, append_assoc, take_at, drop_at}
use Rattle.std.specs.Int.{to_be_bytes, from_be_bytes, w64}
use Rattle.std.proofs.lemmas.Nat.{from_be_bytes-to_be_bytes_8}
use Rattle.std.proofs.lemmas.List.Elements.{All-head, All-tail}
use Rattle.rate_plain.specs.KeyParts.{KeyParts}
use Rattle.rate_plain.specs.Keys.{key_bytes}
use Rattle.rate_plain.specs.Laws.{HasPlainIds}

-- a text without the byte 0 ends at the first one
split_at_zero : (xs ys us vs : List ℕ) → All (λ b. b ≢ 0) xs → All (λ b. b ≢ 0) ys → xs ++ 0 ∷ us ≡ ys ++ 0 ∷ vs → (xs ≡ ys) × (us ≡ vs)
split_at_zero [] [] us vs p q e = (refl, ap (λ l. drop 1 l) e)
split_at_zero [] (y ∷ ys) us vs p q e = absurd (All-head (λ b. b ≢ 0) y ys q (sym (ap (λ l. get_or l 0 0) e)))
split_at_zero (x ∷ xs) [] us vs p q e = absurd (All-head (λ b. b ≢ 0) x xs p (ap (λ l. get_or l 0 0) e))
split_at_zero (x ∷ xs) (y ∷ ys) us vs p q e =
    let rest = split_at_zero xs ys us vs (All-tail (λ b. b ≢ 0) x xs p) (All-tail (λ b. b ≢ 0) y ys q) (ap (λ l. drop 1 l) e) in
    let first : x ≡ y = ap (λ l. get_or l 0 0) e in
    ((λ i. first i ∷ rest.0 i), rest.1)

-- eight bytes tell their number
split_number : (m n : ℕ) (us vs : List ℕ) → m < 2 ^ 64 → n < 2 ^ 64 → to_be_bytes w64 m ++ us ≡ to_be_bytes w64 n ++ vs → (m ≡ n) × (us ≡ vs)
split_number m n us vs small little e =
    let bytes : to_be_bytes w64 m ≡ to_be_bytes w64 n =
    sym (take_at (to_be_bytes w64 m) us 8 refl) ∙ ap (take 8) e ∙ take_at (to_be_bytes w64 n) vs 8 refl in
    let number = sym (from_be_bytes-to_be_bytes_8 m small) ∙ ap (from_be_bytes w64) bytes ∙ from_be_bytes-to_be_bytes_8 n little in
    (number, sym (drop_at (to_be_bytes w64 m) us 8 refl) ∙ ap (drop 8) e ∙ drop_at (to_be_bytes w64 n) vs 8 refl)

-- the bytes of a key, front by front
key_bytes_in_turn : (k : KeyParts) → key_bytes k ≡ k.rule.set_id ++ 0 ∷ (k.rule.rule ++ 0 ∷ (to_be_bytes w64 k.period ++ (to_be_bytes w64 k.threshold ++ (to_be_bytes w64 k.timeout ++ k.values))))
key_bytes_in_turn k = by k.rule.set_id k.rule.rule (to_be_bytes w64 k.period) (to_be_bytes w64 k.threshold) (to_be_bytes w64 k.timeout) k.values
  where
    by : (s r p t o v : List ℕ) → s ++ 0 ∷ [] ++ r ++ 0 ∷ [] ++ p ++ t ++ o ++ v ≡ s ++ 0 ∷ (r ++ 0 ∷ (p ++ (t ++ (o ++ v))))
    by s r p t o v = simp append_assoc refl

pub keys_apart : (a b : KeyParts) → HasPlainIds a → HasPlainIds b → key_bytes a ≡ key_bytes b → a ≡ b
keys_apart a b plain other same =
    let e0 = sym (key_bytes_in_turn a) ∙ same ∙ key_bytes_in_turn b in
    let e1 = split_at_zero _ _ _ _ plain.set_id other.set_id e0 in
    let e2 = split_at_zero _ _ _ _ plain.rule other.rule e1.1 in
    let e3 = split_number a.period b.period _ _ plain.period other.period e2.1 in
    let e4 = split_number a.threshold b.threshold _ _ plain.threshold other.threshold e3.1 in
    let e5 = split_number a.timeout b.timeout _ _ plain.timeout other.timeout e4.1 in
    λ i. record {
      rule = record { set_id = e1.0 i; rule = e2.0 i };
      period = e3.0 i;
      threshold = e4.0 i;
      timeout = e5.0 i;
      values = e5.1 i;
    }
