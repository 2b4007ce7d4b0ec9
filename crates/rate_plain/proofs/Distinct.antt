-- How many different keys a list has, by what it holds.
use Rattle.std.proofs.Common.{◌≡◌, suc, ◌≤◌, Bool, true, false, cond, ◌||◌, List, [], ◌∷◌, refl, sym, ap, ◌∙◌}
use Rattle.std.specs.List.{IsDistinct, AllByRecursion}
use Rattle.std.specs.Set.{is_member, unique_keys, distinct_count}
use Rattle.std.proofs.Common.{true≢false}
use Rattle.std.proofs.lemmas.Map.Made.{length-le_from_is_member}
use Rattle.std.proofs.lemmas.Map.Steps.{list_any_congr}
use Rattle.rate_plain.specs.KeyParts.{KeyParts}
use Rattle.rate_plain.specs.Keys.{same_key}
use Rattle.rate_plain.proofs.KeyLemmas.{same_key-equiv}

-- a key is among those kept once exactly if it is in the list
unique_members : (xs : List KeyParts) (q : KeyParts) → is_member same_key (unique_keys same_key xs) q ≡ is_member same_key xs q
unique_members [] q = refl
unique_members (x ∷ xs) q = by (is_member same_key xs x) (same_key q x) refl refl (unique_members xs q)
  where
    by : (b c : Bool) → is_member same_key xs x ≡ b → same_key q x ≡ c → is_member same_key (unique_keys same_key xs) q ≡ is_member same_key xs q → is_member same_key (cond b (unique_keys same_key xs) (x ∷ unique_keys same_key xs)) q ≡ (c || is_member same_key xs q)
    by true true m t r = r ∙ list_any_congr same_key-equiv q x xs t ∙ m
    by true false m t r = r
    by false c m t r = ap (λ v. v || is_member same_key (unique_keys same_key xs) q) t ∙ ap (λ v. c || v) r

apart : (x : KeyParts) (ys : List KeyParts) → is_member same_key ys x ≡ false → AllByRecursion (λ y. same_key x y ≡ false) ys
apart x [] h = tt
apart x (y ∷ ys) h = by (same_key x y) refl h (apart x ys)
  where
    by : (b : Bool) → same_key x y ≡ b → (b || is_member same_key ys x) ≡ false → (is_member same_key ys x ≡ false → AllByRecursion (λ y. same_key x y ≡ false) ys) → (same_key x y ≡ false) × AllByRecursion (λ y. same_key x y ≡ false) ys
    by true t g r = absurd (true≢false g)
    by false t g r = (t, r g)

unique_distinct : (xs : List KeyParts) → IsDistinct same_key (unique_keys same_key xs)
unfolding IsDistinct
unique_distinct [] = tt
unique_distinct (x ∷ xs) = by (is_member same_key xs x) refl (unique_distinct xs)
  where
    by : (b : Bool) → is_member same_key xs x ≡ b → IsDistinct same_key (unique_keys same_key xs) → IsDistinct same_key (cond b (unique_keys same_key xs) (x ∷ unique_keys same_key xs))
    by true m r = r
    by false m r = (apart x (unique_keys same_key xs) (unique_members xs x ∙ m), r)

-- a list whose keys another has, has no more of them
pub distinct_count-within : (xs ys : List KeyParts) → ((q : KeyParts) → is_member same_key xs q ≡ true → is_member same_key ys q ≡ true) → distinct_count same_key xs ≤ distinct_count same_key ys
distinct_count-within xs ys h =
    length-le_from_is_member same_key-equiv (unique_keys same_key xs) (unique_keys same_key ys) (unique_distinct xs)
    (λ q m. unique_members ys q ∙ h q (sym (unique_members xs q) ∙ m))

-- but for one key it has no more than one more
pub distinct_count-within_more : (k : KeyParts) (xs ys : List KeyParts) → ((q : KeyParts) → is_member same_key xs q ≡ true → (same_key q k || is_member same_key ys q) ≡ true) → distinct_count same_key xs ≤ suc (distinct_count same_key ys)
distinct_count-within_more k xs ys h =
    length-le_from_is_member same_key-equiv (unique_keys same_key xs) (k ∷ unique_keys same_key ys) (unique_distinct xs)
    (λ q m. ap (λ b. same_key q k || b) (unique_members ys q) ∙ h q (sym (unique_members xs q) ∙ m))
