-- The map of some pairs grows by one pair at its end.
use Rattle.std.proofs.Common.{◌≡◌, ℕ, Bool, true, false, cond, not, ◌||◌, if◌then◌else◌, List, [], ◌∷◌, ◌++◌, map, filter, refl, sym, ap, subst, ◌∙◌, true≢false, bytes_eq, append-nil}
use Rattle.std.specs.List.{list_any, AllByRecursion, IsDistinct}
use Rattle.std.specs.Map.{keys_of}
use Rattle.std.proofs.lemmas.Cmp.{nat_list_eq_equiv}
use Rattle.std.proofs.lemmas.List.{map-append, map_push}
use Rattle.std.proofs.lemmas.List.Elements.{filter-append}
use Rattle.std.proofs.lemmas.Slice.Eq.{bytes_eq-Decides}
use Rattle.edge_fields.specs.Maps.{distinct_of, values_at, map_of, with_value}

abbrev Text : Type 0
Text = List ℕ

abbrev Pairs : Type 0
Pairs = List (Text × Text)

pub equal : (a b : Text) → bytes_eq a b ≡ true → a ≡ b
equal a b = (bytes_eq-Decides a b).0

pub swapped : (a b : Text) (e : Bool) → bytes_eq a b ≡ e → bytes_eq b a ≡ e
swapped a b e p = nat_list_eq_equiv.symm b a ∙ p

pub or_false-left : (a b : Bool) → (a || b) ≡ false → a ≡ false
or_false-left true b e = e
or_false-left false b e = refl

pub or_false-right : (a b : Bool) → (a || b) ≡ false → b ≡ false
or_false-right true b e = absurd (true≢false e)
or_false-right false b e = e

-- a text at the end is a new one, unless it is there already
filter-last : (x k : Text) (e b : Bool) → bytes_eq x k ≡ e → filter (λ other. not (bytes_eq x other)) (if b then [] else k ∷ []) ≡ (if (e || b) then [] else k ∷ [])
filter-last x k true true p = refl
filter-last x k true false p = ap (λ c. cond (not c) (k ∷ []) []) p
filter-last x k false true p = refl
filter-last x k false false p = ap (λ c. cond (not c) (k ∷ []) []) p

distinct_of-push : (xs : List Text) (k : Text) → distinct_of (xs ++ k ∷ []) ≡ distinct_of xs ++ (if list_any (bytes_eq k) xs then [] else k ∷ [])
distinct_of-push [] k = refl
distinct_of-push (x ∷ xs) k =
    let apart = λ (other : Text). not (bytes_eq x other) in
    let last = if list_any (bytes_eq k) xs then [] else k ∷ [] in
    ap (λ rest. x ∷ filter apart rest) (distinct_of-push xs k)
    ∙ ap (λ rest. x ∷ rest) (filter-append apart (distinct_of xs) last)
    ∙ ap (λ rest. x ∷ (filter apart (distinct_of xs) ++ rest)) (filter-last x k (bytes_eq k x) (list_any (bytes_eq k) xs) (nat_list_eq_equiv.symm x k))

-- the values of a key, with one more pair
last-value : (k v : Text) (e : Bool) → map (λ (pair : Text × Text). pair.1) (cond e ((k, v) ∷ []) []) ≡ (if e then v ∷ [] else [])
last-value k v true = refl
last-value k v false = refl

values_at-push : (key : Text) (pairs : Pairs) (k v : Text) → values_at key (pairs ++ (k, v) ∷ []) ≡ values_at key pairs ++ (if bytes_eq key k then v ∷ [] else [])
values_at-push key pairs k v =
    let same = λ (pair : Text × Text). bytes_eq key pair.0 in
    let value = λ (pair : Text × Text). pair.1 in
    ap (map value) (filter-append same pairs ((k, v) ∷ []))
    ∙ map-append value (filter same pairs) (filter same ((k, v) ∷ []))
    ∙ ap (λ rest. values_at key pairs ++ rest) (last-value k v (bytes_eq key k))

values_at-absent : (k : Text) (pairs : Pairs) → list_any (bytes_eq k) (keys_of pairs) ≡ false → values_at k pairs ≡ []
values_at-absent k [] none = refl
values_at-absent k (p ∷ pairs) none =
    let value = λ (pair : Text × Text). pair.1 in
    ap (λ e. map value (cond e (p ∷ filter (λ (pair : Text × Text). bytes_eq k pair.0) pairs) (filter (λ (pair : Text × Text). bytes_eq k pair.0) pairs))) (or_false-left _ _ none)
    ∙ values_at-absent k pairs (or_false-right _ _ none)

-- the distinct texts are those that are there, each once
any-apart : (k x : Text) → bytes_eq k x ≡ false → (ds : List Text) → list_any (bytes_eq k) (filter (λ other. not (bytes_eq x other)) ds) ≡ list_any (bytes_eq k) ds
any-apart k x differ [] = refl
any-apart k x differ (d ∷ ds) = by (any-apart k x differ ds) (bytes_eq x d) refl
  where
    by : list_any (bytes_eq k) (filter (λ other. not (bytes_eq x other)) ds) ≡ list_any (bytes_eq k) ds → (e : Bool) → bytes_eq x d ≡ e → list_any (bytes_eq k) (filter (λ other. not (bytes_eq x other)) (d ∷ ds)) ≡ list_any (bytes_eq k) (d ∷ ds)
    by rest true e =
        ap (λ c. list_any (bytes_eq k) (cond (not c) (d ∷ filter (λ other. not (bytes_eq x other)) ds) (filter (λ other. not (bytes_eq x other)) ds))) e
        ∙ rest
        ∙ ap (λ c. c || list_any (bytes_eq k) ds) (sym (ap (bytes_eq k) (sym (equal x d e)) ∙ differ))
    by rest false e =
        ap (λ c. list_any (bytes_eq k) (cond (not c) (d ∷ filter (λ other. not (bytes_eq x other)) ds) (filter (λ other. not (bytes_eq x other)) ds))) e
        ∙ ap (λ c. bytes_eq k d || c) rest

any-distinct_of : (k : Text) (xs : List Text) → list_any (bytes_eq k) (distinct_of xs) ≡ list_any (bytes_eq k) xs
any-distinct_of k [] = refl
any-distinct_of k (x ∷ xs) = by (any-distinct_of k xs) (bytes_eq k x) refl
  where
    by : list_any (bytes_eq k) (distinct_of xs) ≡ list_any (bytes_eq k) xs → (e : Bool) → bytes_eq k x ≡ e → list_any (bytes_eq k) (distinct_of (x ∷ xs)) ≡ list_any (bytes_eq k) (x ∷ xs)
    by rest true e = ap (λ c. c || list_any (bytes_eq k) (filter (λ other. not (bytes_eq x other)) (distinct_of xs))) e ∙ sym (ap (λ c. c || list_any (bytes_eq k) xs) e)
    by rest false e = ap (λ c. bytes_eq k x || c) (any-apart k x e (distinct_of xs) ∙ rest)

all-apart : (x : Text) (ds : List Text) → AllByRecursion (λ y. bytes_eq x y ≡ false) (filter (λ other. not (bytes_eq x other)) ds)
all-apart x [] = tt
all-apart x (d ∷ ds) = by (all-apart x ds) (bytes_eq x d) refl
  where
    by : AllByRecursion (λ y. bytes_eq x y ≡ false) (filter (λ other. not (bytes_eq x other)) ds) → (e : Bool) → bytes_eq x d ≡ e → AllByRecursion (λ y. bytes_eq x y ≡ false) (filter (λ other. not (bytes_eq x other)) (d ∷ ds))
    by rest true e = rw e rest
    by rest false e = rw e (e, rest)

all-filter : (P : Text → Type 0) (p : Text → Bool) (ds : List Text) → AllByRecursion P ds → AllByRecursion P (filter p ds)
all-filter P p [] h = tt
all-filter P p (d ∷ ds) h = by (all-filter P p ds h.1) (p d) refl
  where
    by : AllByRecursion P (filter p ds) → (e : Bool) → p d ≡ e → AllByRecursion P (filter p (d ∷ ds))
    by rest true e = rw e (h.0, rest)
    by rest false e = rw e rest

IsDistinct-filter : (p : Text → Bool) (ds : List Text) → IsDistinct bytes_eq ds → IsDistinct bytes_eq (filter p ds)
unfolding IsDistinct
IsDistinct-filter p [] h = tt
IsDistinct-filter p (d ∷ ds) h = by (all-filter _ p ds h.0) (IsDistinct-filter p ds h.1) (p d) refl
  where
    by : AllByRecursion (λ y. bytes_eq d y ≡ false) (filter p ds) → IsDistinct bytes_eq (filter p ds) → (e : Bool) → p d ≡ e → IsDistinct bytes_eq (filter p (d ∷ ds))
    by apart rest true e = rw e (apart, rest)
    by apart rest false e = rw e rest

IsDistinct-distinct_of : (xs : List Text) → IsDistinct bytes_eq (distinct_of xs)
unfolding IsDistinct
IsDistinct-distinct_of [] = tt
IsDistinct-distinct_of (x ∷ xs) = (all-apart x (distinct_of xs), IsDistinct-filter _ (distinct_of xs) (IsDistinct-distinct_of xs))

-- ---- the entries after one more value
module _ (f : Text → List Text) (k v : Text) where
  abbrev entries : List Text → List (Text × List Text)
  entries ds = map (λ key. (key, f key)) ds

  abbrev grown : Text → List Text
  grown key = f key ++ (if bytes_eq key k then v ∷ [] else [])

  -- where the key is not among these, they stay
  grown-other : (ds : List Text) → AllByRecursion (λ y. bytes_eq k y ≡ false) ds → map (λ key. (key, grown key)) ds ≡ entries ds
  grown-other [] h = refl
  grown-other (d ∷ ds) h =
      (λ j. (d, ap (λ e. f d ++ (if e then v ∷ [] else [])) (swapped k d false h.0) j) ∷ grown-other ds h.1 j)
      ∙ (λ j. (d, append-nil (f d) j) ∷ entries ds)

  absent : (ds : List Text) → list_any (bytes_eq k) ds ≡ false → AllByRecursion (λ y. bytes_eq k y ≡ false) ds
  absent [] none = tt
  absent (d ∷ ds) none = (or_false-left _ _ none, absent ds (or_false-right _ _ none))

  all_of : (d : Text) (ds : List Text) → k ≡ d → AllByRecursion (λ y. bytes_eq d y ≡ false) ds → AllByRecursion (λ y. bytes_eq k y ≡ false) ds
  all_of d ds same h = subst (λ x. AllByRecursion (λ y. bytes_eq x y ≡ false) ds) (sym same) h

  with_value-there : (ds : List Text) → IsDistinct bytes_eq ds → list_any (bytes_eq k) ds ≡ true → with_value (entries ds) k v ≡ map (λ key. (key, grown key)) ds
  unfolding IsDistinct
  with_value-there [] distinct there = absurd (true≢false (sym there))
  with_value-there (d ∷ ds) distinct there = by (with_value-there ds distinct.1) distinct.0 (bytes_eq k d) refl
    where
      by : (list_any (bytes_eq k) ds ≡ true → with_value (entries ds) k v ≡ map (λ key. (key, grown key)) ds) → AllByRecursion (λ y. bytes_eq d y ≡ false) ds → (e : Bool) → bytes_eq k d ≡ e → with_value (entries (d ∷ ds)) k v ≡ map (λ key. (key, grown key)) (d ∷ ds)
      by rest apart true e =
          ap (λ c. if c then (d, f d ++ v ∷ []) ∷ entries ds else (d, f d) ∷ with_value (entries ds) k v) e
          ∙ (λ j. (d, f d ++ v ∷ []) ∷ sym (grown-other ds (all_of d ds (equal k d e) apart)) j)
          ∙ (λ j. (d, ap (λ c. f d ++ (if c then v ∷ [] else [])) (sym (swapped k d true e)) j) ∷ map (λ key. (key, grown key)) ds)
      by rest apart false e =
          ap (λ c. if c then (d, f d ++ v ∷ []) ∷ entries ds else (d, f d) ∷ with_value (entries ds) k v) e
          ∙ (λ j. (d, sym (append-nil (f d)) j) ∷ rest (sym (ap (λ c. c || list_any (bytes_eq k) ds) e) ∙ there) j)
          ∙ (λ j. (d, ap (λ c. f d ++ (if c then v ∷ [] else [])) (sym (swapped k d false e)) j) ∷ map (λ key. (key, grown key)) ds)

-- the keys of entries that are made of them
keys-entries : (f : Text → List Text) (ds : List Text) → keys_of (map (λ key. (key, f key)) ds) ≡ ds
keys-entries f [] = refl
keys-entries f (d ∷ ds) = ap (λ rest. d ∷ rest) (keys-entries f ds)

-- a new key goes last
pub with_value-new : (es : List (Text × List Text)) (k v : Text) → list_any (bytes_eq k) (keys_of es) ≡ false → with_value es k v ≡ es ++ (k, v ∷ []) ∷ []
with_value-new [] k v none = refl
with_value-new (e ∷ es) k v none =
    ap (λ c. if c then (e.0, e.1 ++ v ∷ []) ∷ es else e ∷ with_value es k v) (or_false-left _ _ none)
    ∙ ap (λ rest. e ∷ rest) (with_value-new es k v (or_false-right _ _ none))

-- the map of some pairs and one more is the map of the pairs with that value
pub map_of_push : (pairs : Pairs) (k v : Text) → map_of (pairs ++ (k, v) ∷ []) ≡ with_value (map_of pairs) k v
map_of_push pairs k v = start ∙ by (list_any (bytes_eq k) ks) refl
  where
    ks : List Text
    ks = keys_of pairs

    f : Text → List Text
    f key = values_at key pairs

    ds : List Text
    ds = distinct_of ks

    made : List Text → List (Text × List Text)
    made keys = map (λ key. (key, grown f k v key)) keys

    start : map_of (pairs ++ (k, v) ∷ []) ≡ made (ds ++ (if list_any (bytes_eq k) ks then [] else k ∷ []))
    start =
        (λ j. map (λ key. (key, values_at-push key pairs k v j)) (distinct_of (map_push (λ (pair : Text × Text). pair.0) pairs (k, v) j)))
        ∙ ap made (distinct_of-push ks k)

    by : (there : Bool) → list_any (bytes_eq k) ks ≡ there → made (ds ++ (if list_any (bytes_eq k) ks then [] else k ∷ [])) ≡ with_value (map_of pairs) k v
    by true there =
        let among : list_any (bytes_eq k) ds ≡ true = any-distinct_of k ks ∙ there in
        ap (λ c. made (ds ++ (if c then [] else k ∷ []))) there
        ∙ ap made (append-nil ds)
        ∙ sym (with_value-there f k v ds (IsDistinct-distinct_of ks) among)
    by false there =
        let among : list_any (bytes_eq k) ds ≡ false = any-distinct_of k ks ∙ there in
        ap (λ c. made (ds ++ (if c then [] else k ∷ []))) there
        ∙ map-append (λ key. (key, grown f k v key)) ds (k ∷ [])
        ∙ ap (λ front. front ++ (k, grown f k v k) ∷ []) (grown-other f k v ds (absent f k v ds among))
        ∙ (λ j. map_of pairs ++ (k, values_at-absent k pairs there j ++ (if nat_list_eq_equiv.refl k j then v ∷ [] else [])) ∷ [])
        ∙ sym (with_value-new (map_of pairs) k v (ap (list_any (bytes_eq k)) (keys-entries f ds) ∙ among))

-- the keys of a map are distinct
pub IsDistinct-map_of : (pairs : Pairs) → IsDistinct bytes_eq (keys_of (map_of pairs))
IsDistinct-map_of pairs = subst (IsDistinct bytes_eq) (sym (keys-entries (λ key. values_at key pairs) (distinct_of (keys_of pairs)))) (IsDistinct-distinct_of (keys_of pairs))
