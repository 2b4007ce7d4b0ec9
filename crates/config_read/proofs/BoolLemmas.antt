-- What tests of a table say where nothing is refused.
use Rattle.std.proofs.Common.{◌≡◌, ◌≤◌, ◌<◌, ℕ, Bool, true, false, not, ◌&&◌, ◌||◌, nat_lt, nat_le, List, [], ◌∷◌, Option, None, Some, is_none, is_some, bytes_eq, cond, ◌+◌, refl, sym, ap, ◌∙◌, true≢false, ltb-false, leb-true}
use Rattle.std.specs.List.{list_any, position_from}

-- what isn't refused for being false
pub shown : (b : Bool) → not b ≡ false → b ≡ true
shown true h = refl
shown false h = absurd (true≢false h)

pub neither_left : (a b : Bool) → (a || b) ≡ false → a ≡ false
neither_left true b h = absurd (true≢false h)
neither_left false b h = refl

pub neither_right : (a b : Bool) → (a || b) ≡ false → b ≡ false
neither_right true b h = absurd (true≢false h)
neither_right false b h = h

pub both : (a b : Bool) → a ≡ true → b ≡ true → (a && b) ≡ true
both true b h k = k
both false b h k = absurd (true≢false (sym h))

pub both_left : (a b : Bool) → (a && b) ≡ true → a ≡ true
both_left true b h = refl
both_left false b h = absurd (true≢false (sym h))

pub both_right : (a b : Bool) → (a && b) ≡ true → b ≡ true
both_right true b h = h
both_right false b h = absurd (true≢false (sym h))

pub not_behind : (a b : Bool) → (a && b) ≡ false → a ≡ true → b ≡ false
not_behind true b h is = h
not_behind false b h is = absurd (true≢false (sym is))

pub at_most : (most n : ℕ) → nat_lt most n ≡ false → n ≤ most
at_most most n h = ltb-false most n h

pub at_least : (least n : ℕ) → nat_le least n ≡ true → least ≤ n
at_least least n h = leb-true least n h

pub some_is : {A : Type 0} (found : Option A) → is_none found ≡ false → is_some found ≡ true
some_is None h = absurd (true≢false h)
some_is (Some x) h = refl

-- nothing is found where no element passes
none_here : (test : Bool) (n : ℕ) (found : Option ℕ) (more : Bool) → (test || more) ≡ false → (more ≡ false → found ≡ None) → cond test (Some n) found ≡ None
none_here true n found more h later = absurd (true≢false h)
none_here false n found more h later = later h

pub none_found : {A : Type 0} (p : A → Bool) (n : ℕ) (xs : List A) → list_any p xs ≡ false → position_from p n xs ≡ None
none_found p n [] h = refl
none_found p n (x ∷ xs) h = none_here (p x) n (position_from p (n + 1) xs) (list_any p xs) h (none_found p (n + 1) xs)
