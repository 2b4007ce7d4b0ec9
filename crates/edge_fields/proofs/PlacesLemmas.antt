-- Where a map finds a key, and what a value there or at the end makes of it.
use Rattle.std.proofs.Common.{Ordering, ◌≡◌, ℕ, zero, suc, ◌+◌, ◌<◌, Bool, true, false, cond, ◌||◌, if◌then◌else◌, List, [], ◌∷◌, ◌++◌, length, get_or, take, drop, take-append-drop, Option, None, Some, Result, Ok, Err, OnOk, refl, sym, ap, subst, ◌∙◌, arith, bytes_eq}
use Rattle.std.specs.Prelude.{slice_set, is_err}
use Rattle.std.specs.List.{list_any, AllByRecursion, IsDistinct, position_from}
use Rattle.std.specs.Map.{keys_of, lookup, KeepsOthers}
use Rattle.std.specs.Option.{option_or}
use Rattle.std.specs.Ordering.{nat_cmp}
use Rattle.std.specs.Cmp.{eq_by_cmp_equiv}
use Rattle.std.specs.Cmp.Lexicographic.{slice_cmp, nat_list_cmp_total, nat_list_eq_equiv}
use Rattle.std.specs.declared.vec.Vec.{Vec}
use Rattle.std.specs.BTreeMap.{BTreeMap, UpdatesBy, is_at, get_by}
use Rattle.std.proofs.lemmas.List.{length-map, map-append, drop_more}
use Rattle.std.proofs.lemmas.Map.Keys.{IsDistinct-push}
use Rattle.std.proofs.lemmas.Map.Text.{is_eq-slice_cmp}
use Rattle.std.proofs.lemmas.Option.{same_Some}
use Rattle.edge_fields.specs.Maps.{with_value}
use Rattle.edge_fields.specs.Places.{ArePlaces}
use Rattle.edge_fields.proofs.MapsLemmas.{equal, swapped, or_false-left, or_false-right, with_value-new}

abbrev Text : Type 0
Text = List ℕ

abbrev Entries : Type 0
Entries = List (Text × List Text)

-- ---- a key that is there
-- the key stands at a place, and a value more goes to it there
pub record IsPlace (k v : Text) (es : Entries) (place : ℕ) : Type 0 where
  pub below : place < length es
  pub value : (d : Text × List Text) → lookup (bytes_eq k) es ≡ Some (get_or es place d).1
  pub written : (d : Text × List Text) → slice_set es place ((get_or es place d).0, (get_or es place d).1 ++ v ∷ []) ≡ with_value es k v
  pub keys : keys_of (with_value es k v) ≡ keys_of es

place_first : (k v : Text) (e : Text × List Text) (es : Entries) → bytes_eq k e.0 ≡ true → IsPlace k v (e ∷ es) 0
place_first k v e es here = record {
  below = omega arith;
  value = λ d. ap (λ c. cond c (Some e.1) (lookup (bytes_eq k) es)) here;
  written = λ d. sym (ap (λ c. if c then (e.0, e.1 ++ v ∷ []) ∷ es else e ∷ with_value es k v) here);
  keys = ap (λ c. keys_of (if c then (e.0, e.1 ++ v ∷ []) ∷ es else e ∷ with_value es k v)) here;
}

place_later : (k v : Text) (e : Text × List Text) (es : Entries) (place : ℕ) → bytes_eq k e.0 ≡ false → IsPlace k v es place → IsPlace k v (e ∷ es) (suc place)
place_later k v e es place other p =
    let below : place < length es = p.below in
    record {
      below = omega arith;
      value = λ d. ap (λ c. cond c (Some e.1) (lookup (bytes_eq k) es)) other ∙ p.value d;
      written = λ d.
          ap (λ rest. e ∷ rest) (p.written d)
          ∙ sym (ap (λ c. if c then (e.0, e.1 ++ v ∷ []) ∷ es else e ∷ with_value es k v) other);
      keys =
          ap (λ c. keys_of (if c then (e.0, e.1 ++ v ∷ []) ∷ es else e ∷ with_value es k v)) other
          ∙ ap (λ rest. e.0 ∷ rest) p.keys;
    }

place_from : (k v : Text) (i at : ℕ) (es : Entries) → position_from (bytes_eq k) i (keys_of es) ≡ Some at → (place : ℕ) × (at ≡ i + place) × IsPlace k v es place
place_from k v i at [] found = absurd cc
place_from k v i at (e ∷ es) found = by (place_from k v (i + 1) at es) (bytes_eq k e.0) refl
  where
    by : (position_from (bytes_eq k) (i + 1) (keys_of es) ≡ Some at → (place : ℕ) × (at ≡ i + 1 + place) × IsPlace k v es place) → (there : Bool) → bytes_eq k e.0 ≡ there → (place : ℕ) × (at ≡ i + place) × IsPlace k v (e ∷ es) place
    by rest true there =
        let same : i ≡ at = same_Some _ _ (sym (ap (λ c. cond c (Some i) (position_from (bytes_eq k) (i + 1) (keys_of es))) there) ∙ found) in
        (0, omega arith, place_first k v e es there)
    by rest false there =
        let later = rest (sym (ap (λ c. cond c (Some i) (position_from (bytes_eq k) (i + 1) (keys_of es))) there) ∙ found) in
        let same : at ≡ i + 1 + later.0 = later.1 in
        (suc later.0, omega arith, place_later k v e es later.0 there later.2)

pub place_of : (k v : Text) (at : ℕ) (es : Entries) → position_from (bytes_eq k) 0 (keys_of es) ≡ Some at → IsPlace k v es at
place_of k v at es found =
    let place = place_from k v 0 at es found in
    let same : place.0 ≡ at = omega (arith, place.1) in
    subst (IsPlace k v es) same place.2

-- ---- a key that isn't there
pub none_among : (k : Text) (i : ℕ) (ks : List Text) → position_from (bytes_eq k) i ks ≡ None → list_any (bytes_eq k) ks ≡ false
none_among k i [] none = refl
none_among k i (x ∷ ks) none = by (none_among k (i + 1) ks) (bytes_eq k x) refl
  where
    by : (position_from (bytes_eq k) (i + 1) ks ≡ None → list_any (bytes_eq k) ks ≡ false) → (there : Bool) → bytes_eq k x ≡ there → list_any (bytes_eq k) (x ∷ ks) ≡ false
    by rest true there = absurd cc (sym (ap (λ c. cond c (Some i) (position_from (bytes_eq k) (i + 1) ks)) there) ∙ none)
    by rest false there =
        ap (λ c. c || list_any (bytes_eq k) ks) there
        ∙ rest (sym (ap (λ c. cond c (Some i) (position_from (bytes_eq k) (i + 1) ks)) there) ∙ none)

pub none_found : (k : Text) (i : ℕ) (ks : List Text) → list_any (bytes_eq k) ks ≡ false → position_from (bytes_eq k) i ks ≡ None
none_found k i [] none = refl
none_found k i (x ∷ ks) none =
    ap (λ c. cond c (Some i) (position_from (bytes_eq k) (i + 1) ks)) (or_false-left _ _ none)
    ∙ none_found k (i + 1) ks (or_false-right _ _ none)

no_lookup : (k : Text) (es : Entries) → list_any (bytes_eq k) (keys_of es) ≡ false → lookup (bytes_eq k) es ≡ None
no_lookup k [] none = refl
no_lookup k (e ∷ es) none =
    ap (λ c. cond c (Some e.1) (lookup (bytes_eq k) es)) (or_false-left _ _ none)
    ∙ no_lookup k es (or_false-right _ _ none)

pub nothing_found : (k : Text) (es : Entries) → position_from (bytes_eq k) 0 (keys_of es) ≡ None → lookup (bytes_eq k) es ≡ None
nothing_found k es none = no_lookup k es (none_among k 0 (keys_of es) none)

pub put_last : (k v : Text) (es : Entries) → position_from (bytes_eq k) 0 (keys_of es) ≡ None → es ++ (k, v ∷ []) ∷ [] ≡ with_value es k v
put_last k v es none = sym (with_value-new es k v (none_among k 0 (keys_of es) none))

-- ---- one key more
position_from-push : (t : Text → Bool) (i : ℕ) (ks : List Text) (k : Text) → position_from t i (ks ++ k ∷ []) ≡ option_or (position_from t i ks) (if t k then Some (i + length ks) else None)
position_from-push t i [] k =
    let same : i ≡ i + 0 = omega arith in
    ap (λ n. cond (t k) (Some n) None) same
position_from-push t i (x ∷ ks) k = by (position_from-push t (i + 1) ks k) (t x) refl
  where
    by : position_from t (i + 1) (ks ++ k ∷ []) ≡ option_or (position_from t (i + 1) ks) (if t k then Some (i + 1 + length ks) else None) → (there : Bool) → t x ≡ there → position_from t i (x ∷ ks ++ k ∷ []) ≡ option_or (position_from t i (x ∷ ks)) (if t k then Some (i + length (x ∷ ks)) else None)
    by rest true there =
        ap (λ c. cond c (Some i) (position_from t (i + 1) (ks ++ k ∷ []))) there
        ∙ sym (ap (λ c. option_or (cond c (Some i) (position_from t (i + 1) ks)) (if t k then Some (i + length (x ∷ ks)) else None)) there)
    by rest false there =
        let same : i + 1 + length ks ≡ i + length (x ∷ ks) = omega arith in
        ap (λ c. cond c (Some i) (position_from t (i + 1) (ks ++ k ∷ []))) there
        ∙ rest
        ∙ ap (λ n. option_or (position_from t (i + 1) ks) (if t k then Some n else None)) same
        ∙ sym (ap (λ c. option_or (cond c (Some i) (position_from t (i + 1) ks)) (if t k then Some (i + length (x ∷ ks)) else None)) there)

or_nothing : (o : Option ℕ) → option_or o None ≡ o
or_nothing None = refl
or_nothing (Some x) = refl

module _ {A : Type 0} (keys : List Text) (key : Vec ℕ A) (old new : BTreeMap (Vec ℕ A) ℕ) where
  abbrev pub order : Vec ℕ A → Vec ℕ A → Ordering
  order x y = slice_cmp nat_cmp x.items y.items

  abbrev at : Text → Vec ℕ A → Ordering
  at text name = slice_cmp nat_cmp text name.items

  -- another key is where it was
  kept : UpdatesBy order (order key) old new (Some (length keys)) → (text : Text) → bytes_eq key.items text ≡ false → get_by (at text) new ≡ get_by (at text) old
  unfolding KeepsOthers
  kept updates text other =
      updates.3 (is_at (at text))
      (λ x y. (eq_by_cmp_equiv nat_list_cmp_total).congr text x.items y.items)
      (λ name here.
      let same : bytes_eq key.items name.items ≡ true = sym (is_eq-slice_cmp key.items name.items) ∙ here in
      is_eq-slice_cmp text name.items ∙ nat_list_eq_equiv.symm text name.items ∙ sym (nat_list_eq_equiv.congr key.items name.items text same) ∙ other)

  pub places_more : ArePlaces keys old → position_from (bytes_eq key.items) 0 keys ≡ None → UpdatesBy order (order key) old new (Some (length keys)) → ArePlaces (keys ++ key.items ∷ []) new
  places_more places none updates = record {
    distinct = IsDistinct-push nat_list_eq_equiv keys key.items places.distinct (none_among key.items 0 keys none);
    found = λ text. by text (bytes_eq key.items text) refl;
  }
    where
      last : (text : Text) → position_from (bytes_eq text) 0 (keys ++ key.items ∷ []) ≡ option_or (position_from (bytes_eq text) 0 keys) (if bytes_eq text key.items then Some (length keys) else None)
      last text =
          let same : 0 + length keys ≡ length keys = omega arith in
          position_from-push (bytes_eq text) 0 keys key.items
          ∙ ap (λ n. option_or (position_from (bytes_eq text) 0 keys) (if bytes_eq text key.items then Some n else None)) same

      here : get_by (at key.items) new ≡ position_from (bytes_eq key.items) 0 (keys ++ key.items ∷ [])
      here =
          updates.1
          ∙ sym (last key.items
          ∙ ap (λ o. option_or o (if bytes_eq key.items key.items then Some (length keys) else None)) none
          ∙ ap (λ c. if c then Some (length keys) else None) (nat_list_eq_equiv.refl key.items))

      by : (text : Text) → (same : Bool) → bytes_eq key.items text ≡ same → get_by (at text) new ≡ position_from (bytes_eq text) 0 (keys ++ key.items ∷ [])
      by text true same = subst (λ t. get_by (at t) new ≡ position_from (bytes_eq t) 0 (keys ++ key.items ∷ [])) (equal key.items text same) here
      by text false same =
          kept updates text same
          ∙ places.found text
          ∙ sym (last text
          ∙ ap (λ c. option_or (position_from (bytes_eq text) 0 keys) (if c then Some (length keys) else None)) (swapped key.items text false same)
          ∙ or_nothing (position_from (bytes_eq text) 0 keys))

-- ---- copies
all_at : (P : Text → Type 0) (xs : List Text) (k : Text) (left : List Text) → AllByRecursion P (xs ++ k ∷ left) → P k
all_at P [] k left all = all.0
all_at P (x ∷ xs) k left all = all_at P xs k left all.1

absent_before : (xs : List Text) (k : Text) (left : List Text) → IsDistinct bytes_eq (xs ++ k ∷ left) → list_any (bytes_eq k) xs ≡ false
unfolding IsDistinct
absent_before [] k left distinct = refl
absent_before (x ∷ xs) k left distinct =
    ap (λ c. c || list_any (bytes_eq k) xs) (swapped x k false (all_at _ xs k left distinct.0))
    ∙ absent_before xs k left distinct.1

-- a key is not among those before it
pub not_before : (xs : List Text) (k : Text) (left : List Text) → IsDistinct bytes_eq (xs ++ k ∷ left) → position_from (bytes_eq k) 0 xs ≡ None
not_before xs k left distinct = none_found k 0 xs (absent_before xs k left distinct)

-- ---- what the code knows
pub no_places : {A : Type 0} (es : Entries) (m : BTreeMap (Vec ℕ A) ℕ) → es ≡ [] → m.entries ≡ [] → ArePlaces (keys_of es) m
unfolding IsDistinct
no_places es m none empty = record {
  distinct = subst (λ entries. IsDistinct bytes_eq (keys_of entries)) (sym none) tt;
  found = λ text. ap (lookup _) empty ∙ ap (λ entries. position_from (bytes_eq text) 0 (keys_of entries)) (sym none);
}

-- an entry that keeps its key
pub keys_set : (es : Entries) (at : ℕ) (d e : Text × List Text) (texts : List Text) → e ≡ get_or es at d → at < length es → keys_of (slice_set es at (e.0, texts)) ≡ keys_of es
keys_set es at d e texts is below = ap (λ (entry : Text × List Text). keys_of (slice_set es at (entry.0, texts))) is ∙ by es at below
  where
    by : (es : Entries) (at : ℕ) → at < length es → keys_of (slice_set es at ((get_or es at d).0, texts)) ≡ keys_of es
    by [] at below = refl
    by (e ∷ es) zero below = refl
    by (e ∷ es) (suc at) below = ap (λ rest. e.0 ∷ rest) (by es at (omega (arith, below)))

length_keys : (es : Entries) → length (keys_of es) ≡ length es
length_keys es = length-map es (λ entry. entry.0)

pub put_places : {A : Type 0} (es more : Entries) (key : Text) (texts : List Text) (name : Vec ℕ A) (place : ℕ) (old new : BTreeMap (Vec ℕ A) ℕ)
    → ArePlaces (keys_of es) old → name.items ≡ key → place ≡ length es → position_from (bytes_eq key) 0 (keys_of es) ≡ None
    → UpdatesBy (order (keys_of es) name old new) (order (keys_of es) name old new name) old new (Some place) → more ≡ es ++ (key, texts) ∷ [] → ArePlaces (keys_of more) new
put_places es more key texts name place old new places same here none updates is =
    subst (λ keys. ArePlaces keys new)
    (sym (ap keys_of is ∙ map-append (λ (entry : Text × List Text). entry.0) es ((key, texts) ∷ []) ∙ ap (λ k. keys_of es ++ k ∷ []) (sym same)))
    (places_more (keys_of es) name old new places
    (ap (λ k. position_from (bytes_eq k) 0 (keys_of es)) same ∙ none)
    (subst (λ n. UpdatesBy (order (keys_of es) name old new) (order (keys_of es) name old new name) old new (Some n)) (here ∙ sym (length_keys es)) updates))

pub ok_holds : {T E : Type 0} (r : Result T E) (P : Type 0) → is_err r ≡ false → OnOk r P → P
ok_holds (Ok x) P fine holds = holds
ok_holds (Err e) P fine holds = absurd cc

-- the key of the next entry to copy is not among those that were copied
pub copied_apart : (es : Entries) (i : ℕ) (e : Text × List Text) → i < length es → e ≡ get_or es i e → IsDistinct bytes_eq (keys_of es) → position_from (bytes_eq e.0) 0 (keys_of (take i es)) ≡ None
copied_apart es i e below is distinct =
    not_before (keys_of (take i es)) e.0 (keys_of (drop (i + 1) es)) (subst (IsDistinct bytes_eq) (ap keys_of whole ∙ map-append (λ (entry : Text × List Text). entry.0) (take i es) (e ∷ drop (i + 1) es)) distinct)
  where
    whole : es ≡ take i es ++ e ∷ drop (i + 1) es
    whole = sym (take-append-drop i es) ∙ ap (λ rest. take i es ++ rest) (drop_more es i e below ∙ ap (λ entry. entry ∷ drop (i + 1) es) (sym is))
