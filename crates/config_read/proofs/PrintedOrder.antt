-- Members that are put in one after the other: in byte order of their names as they come, or in another order.
use Rattle.std.proofs.Common.{◌≡◌, ◌⊎◌, ◌<◌, ℕ, true, false, Option, None, Some, List, [], ◌∷◌, ◌++◌, map, refl, sym, ap, ◌∙◌, subst, append_assoc, append-nil, true≢false, Ordering, Less, Equal, Greater, nat_cmp, inl, inr, ⊎_elim, lt_irrefl, arith}
use Rattle.std.specs.List.{AllByRecursion}
use Rattle.std.specs.List.Sorted.{IsStrictlySortedBy}
use Rattle.std.specs.Cmp.Lexicographic.{slice_cmp, nat_list_cmp_total}
use Rattle.std.specs.Ordering.{match_ordering, ordering_then, ordering_reverse, ordering_index, is_eq}
use Rattle.std.specs.Cmp.{IsTotalOrder, on_total, then_total}
use Rattle.std.proofs.lemmas.Slice.Eq.{bytes_eq-Decides}
use Rattle.std.proofs.lemmas.Map.Keys.{sorted_head, sorted_tail}
use Rattle.std.proofs.lemmas.Map.Text.{is_eq-slice_cmp}
use Rattle.serde_json.specs.Find.{get_member}
use Rattle.serde_json.proofs.Views.{get_member-put_other}
use Rattle.serde_json.specs.Data.{Data, Members, no_members, member, put}
use Rattle.config_read.specs.Members.{entries_of}
use Rattle.config_read.specs.Rewrites.{lower, name_cmp, put_by_name, put_in_order, in_order}
use Rattle.config_read.specs.Printed.{put_all}

abbrev Entry : Type 0
Entry = List ℕ × Data

-- the entries as members, in their order
abbrev pub members_in : List Entry → Members
members_in [] = no_members
members_in (entry ∷ rest) = member entry.0 entry.1 (members_in rest)

pub entries_of-members_in : (entries : List Entry) → entries_of (members_in entries) ≡ entries
entries_of-members_in [] = refl
entries_of-members_in (entry ∷ rest) = ap (λ (more : List Entry). entry ∷ more) (entries_of-members_in rest)

-- the name stands behind each of these
IsBehind : List ℕ → List Entry → Type 0
IsBehind name [] = Unit {0}
IsBehind name (entry ∷ rest) = (slice_cmp nat_cmp name entry.0 ≡ Greater) × IsBehind name rest

put_behind : (entry : Entry) (done : List Entry) → IsBehind entry.0 done → put entry.0 entry.1 (members_in done) ≡ members_in (done ++ entry ∷ [])
unfolding IsBehind
put_behind entry [] behind = refl
put_behind entry (first ∷ done) behind = rw behind.0 (ap (λ (rest : Members). member first.0 first.1 rest) (put_behind entry done behind.1))

-- ---- entries that come in byte order of their names

AreBehind : List Entry → List Entry → Type 0
AreBehind done left = AllByRecursion (λ (entry : Entry). IsBehind entry.0 done) left

behind_more : (name : List ℕ) (done : List Entry) (last : Entry) → IsBehind name done → slice_cmp nat_cmp name last.0 ≡ Greater → IsBehind name (done ++ last ∷ [])
unfolding IsBehind
behind_more name [] last behind after = (after, tt)
behind_more name (first ∷ done) last behind after = (behind.0, behind_more name done last behind.1 after)

pub after_flipped : (name other : List ℕ) → slice_cmp nat_cmp name other ≡ Less → slice_cmp nat_cmp other name ≡ Greater
after_flipped name other before = nat_list_cmp_total.antisymm other name ∙ ap ordering_reverse before

abbrev names : List Entry → List (List ℕ)
names entries = map (λ (entry : Entry). entry.0) entries

all_behind_more : (done : List Entry) (first : Entry) (left : List Entry) → AreBehind done left
    → AllByRecursion (λ (name : List ℕ). slice_cmp nat_cmp first.0 name ≡ Less) (names left) → AreBehind (done ++ first ∷ []) left
unfolding AreBehind
all_behind_more done first [] behind before = tt
all_behind_more done first (next ∷ left) behind before =
    (behind_more next.0 done first behind.0 (after_flipped first.0 next.0 before.0), all_behind_more done first left behind.1 before.1)

put_all_behind : (done left : List Entry) → AreBehind done left → IsStrictlySortedBy (slice_cmp nat_cmp) (names left)
    → put_all (members_in done) left ≡ members_in (done ++ left)
unfolding AreBehind
put_all_behind done [] behind sorted = ap members_in (sym (append-nil done))
put_all_behind done (entry ∷ left) behind sorted =
    ap (λ (ms : Members). put_all ms left) (put_behind entry done behind.0)
    ∙ put_all_behind (done ++ entry ∷ []) left
    (all_behind_more done entry left behind.1 (sorted_head (slice_cmp nat_cmp) entry.0 (names left) sorted))
    (sorted_tail (slice_cmp nat_cmp) entry.0 (names left) sorted)
    ∙ ap members_in (append_assoc done (entry ∷ []) left)

all_behind_none : (left : List Entry) → AreBehind [] left
unfolding AreBehind IsBehind
all_behind_none [] = tt
all_behind_none (entry ∷ left) = (tt, all_behind_none left)

-- entries in byte order are the members in their order
pub entries_in_order : (entries : List Entry) → IsStrictlySortedBy (slice_cmp nat_cmp) (names entries) → entries_of (put_all no_members entries) ≡ entries
entries_in_order entries sorted =
    ap entries_of (put_all_behind [] entries (all_behind_none entries) sorted) ∙ entries_of-members_in entries

-- ---- entries that are read in the order of header names

name_total : IsTotalOrder name_cmp
name_total = then_total (on_total lower nat_list_cmp_total) nat_list_cmp_total

-- names that compare as equal are the same
told_same : (name other : List ℕ) → slice_cmp nat_cmp name other ≡ Equal → name ≡ other
told_same name other equal = (bytes_eq-Decides name other).0 (sym (is_eq-slice_cmp name other) ∙ ap is_eq equal)

same_behind : (first : Ordering) (name other : List ℕ) → ordering_then first (slice_cmp nat_cmp name other) ≡ Equal → name ≡ other
same_behind Less name other equal = absurd cc
same_behind Equal name other equal = told_same name other equal
same_behind Greater name other equal = absurd cc

equal_of_same : (name other : List ℕ) → name ≡ other → slice_cmp nat_cmp name other ≡ Equal
equal_of_same name other same = equal_from (slice_cmp nat_cmp name other) (is_eq-slice_cmp name other ∙ (bytes_eq-Decides name other).1 same)
  where
    equal_from : (o : Ordering) → is_eq o ≡ true → o ≡ Equal
    equal_from Less e = absurd (true≢false (sym e))
    equal_from Equal e = refl
    equal_from Greater e = absurd (true≢false (sym e))

-- ---- two entries may change places

-- where two names stand to a third decides how they stand to each other
pub record AreApart (xo yo xy yx : Ordering) : Type 0 where
  pub below : ordering_index xo < ordering_index yo → (xy ≡ Less) × (yx ≡ Greater)
  pub above : ordering_index yo < ordering_index xo → (xy ≡ Greater) × (yx ≡ Less)
  pub never : xo ≡ Equal → yo ≡ Equal → ⊥
  pub either : ((xy ≡ Less) × (yx ≡ Greater)) ⊎ ((xy ≡ Greater) × (yx ≡ Less))

swapped_at : (x y o : Entry) (rest : List Entry) (xo yo : Ordering) → name_cmp x.0 o.0 ≡ xo → name_cmp y.0 o.0 ≡ yo
    → AreApart xo yo (name_cmp x.0 y.0) (name_cmp y.0 x.0)
    → put_by_name (put_by_name rest x) y ≡ put_by_name (put_by_name rest y) x
    → put_by_name (put_by_name (o ∷ rest) x) y ≡ put_by_name (put_by_name (o ∷ rest) y) x
swapped_at x y o rest Less Less ex ey apart more = ⊎_elim
    (λ (w : (name_cmp x.0 y.0 ≡ Less) × (name_cmp y.0 x.0 ≡ Greater)). simp (ex, ey, w.0, w.1) refl)
    (λ (w : (name_cmp x.0 y.0 ≡ Greater) × (name_cmp y.0 x.0 ≡ Less)). simp (ex, ey, w.0, w.1) refl) apart.either
swapped_at x y o rest Less Equal ex ey apart more = let w = apart.below (omega arith) in simp (ex, ey, w.0, w.1) refl
swapped_at x y o rest Less Greater ex ey apart more = let w = apart.below (omega arith) in simp (ex, ey, w.0, w.1) refl
swapped_at x y o rest Equal Less ex ey apart more = let w = apart.above (omega arith) in simp (ex, ey, w.0, w.1) refl
swapped_at x y o rest Equal Equal ex ey apart more = absurd (apart.never refl refl)
swapped_at x y o rest Equal Greater ex ey apart more = let w = apart.below (omega arith) in simp (ex, ey, w.0, w.1) refl
swapped_at x y o rest Greater Less ex ey apart more = let w = apart.above (omega arith) in simp (ex, ey, w.0, w.1) refl
swapped_at x y o rest Greater Equal ex ey apart more = let w = apart.above (omega arith) in simp (ex, ey, w.0, w.1) refl
swapped_at x y o rest Greater Greater ex ey apart more = simp (ex, ey) (ap (λ (done : List Entry). o ∷ done) more)

flip_less : (name other : List ℕ) → name_cmp name other ≡ Less → name_cmp other name ≡ Greater
flip_less name other e = name_total.antisymm other name ∙ ap ordering_reverse e

flip_greater : (name other : List ℕ) → name_cmp name other ≡ Greater → name_cmp other name ≡ Less
flip_greater name other e = name_total.antisymm other name ∙ ap ordering_reverse e

-- a name that stands lower beside a third is the lower one
lower_of : (x y o : List ℕ) (xo yo : Ordering) → name_cmp x o ≡ xo → name_cmp y o ≡ yo → ordering_index xo < ordering_index yo → name_cmp x y ≡ Less
lower_of x y o Less Less ex ey h = absurd (lt_irrefl 0 h)
lower_of x y o Less Equal ex ey h =
    let back : name_cmp o y ≡ Equal = name_total.antisymm o y ∙ ap ordering_reverse ey in
    flip_greater y x (name_total.congr y o x ey ∙ flip_less x o ex)
lower_of x y o Less Greater ex ey h = name_total.trans x o y ex (flip_greater y o ey)
lower_of x y o Equal Less ex ey h = absurd (omega arith)
lower_of x y o Equal Equal ex ey h = absurd (omega arith)
lower_of x y o Equal Greater ex ey h = name_total.congr x o y ex ∙ flip_greater y o ey
lower_of x y o Greater Less ex ey h = absurd (omega arith)
lower_of x y o Greater Equal ex ey h = absurd (omega arith)
lower_of x y o Greater Greater ex ey h = absurd (omega arith)

either_way : (x y : List ℕ) (xy : Ordering) → name_cmp x y ≡ xy → (x ≡ y → ⊥)
    → ((name_cmp x y ≡ Less) × (name_cmp y x ≡ Greater)) ⊎ ((name_cmp x y ≡ Greater) × (name_cmp y x ≡ Less))
either_way x y Less e apart = inl (e, flip_less x y e)
either_way x y Equal e apart = absurd (apart (same_behind (slice_cmp nat_cmp (lower x) (lower y)) x y e))
either_way x y Greater e apart = inr (e, flip_greater x y e)

apart_at : (x y o : List ℕ) → (x ≡ y → ⊥) → AreApart (name_cmp x o) (name_cmp y o) (name_cmp x y) (name_cmp y x)
apart_at x y o apart = record {
  below = λ h. let less = lower_of x y o (name_cmp x o) (name_cmp y o) refl refl h in (less, flip_less x y less);
  above = λ h. let less = lower_of y x o (name_cmp y o) (name_cmp x o) refl refl h in (flip_less y x less, less);
  never = λ ex ey. apart (same_behind (slice_cmp nat_cmp (lower x) (lower o)) x o ex ∙ sym (same_behind (slice_cmp nat_cmp (lower y) (lower o)) y o ey));
  either = either_way x y (name_cmp x y) refl apart;
}

swapped_two : (x y : Entry) → ((name_cmp x.0 y.0 ≡ Less) × (name_cmp y.0 x.0 ≡ Greater)) ⊎ ((name_cmp x.0 y.0 ≡ Greater) × (name_cmp y.0 x.0 ≡ Less))
    → put_by_name (put_by_name [] x) y ≡ put_by_name (put_by_name [] y) x
swapped_two x y (inl w) = simp (w.0, w.1) refl
swapped_two x y (inr w) = simp (w.0, w.1) refl

swapped : (x y : Entry) → (x.0 ≡ y.0 → ⊥) → (done : List Entry) → put_by_name (put_by_name done x) y ≡ put_by_name (put_by_name done y) x
swapped x y apart [] = swapped_two x y (either_way x.0 y.0 (name_cmp x.0 y.0) refl apart)
swapped x y apart (o ∷ rest) =
    swapped_at x y o rest (name_cmp x.0 o.0) (name_cmp y.0 o.0) refl refl (apart_at x.0 y.0 o.0 apart) (swapped x y apart rest)

-- ---- a new entry is put into its place

none_at : (o : Ordering) (found : Option Data) (d : Data) → match_ordering o found (Some d) found ≡ None → (o ≡ Equal → ⊥) × (found ≡ None)
none_at Less found d e = (λ same. absurd cc, e)
none_at Equal found d e = absurd cc
none_at Greater found d e = (λ same. absurd cc, e)

-- a new entry may come last
moved : (entry : Entry) (ms : Members) (done : List Entry) → get_member entry.0 ms ≡ None
    → put_in_order (put_by_name done entry) (entries_of ms) ≡ put_by_name (put_in_order done (entries_of ms)) entry
moved entry no_members done new = refl
moved entry (member name d ms) done new =
    let split = none_at (slice_cmp nat_cmp entry.0 name) (get_member entry.0 ms) d new in
    ap (λ (given : List Entry). put_in_order given (entries_of ms)) (swapped entry (name, d) (λ same. split.0 (equal_of_same entry.0 name same)) done)
    ∙ moved entry ms (put_by_name done (name, d)) split.1

put_at : (o : Ordering) (entry : Entry) (name : List ℕ) (d : Data) (ms : Members) (done : List Entry) → (o ≡ Equal → ⊥)
    → get_member entry.0 (member name d ms) ≡ None
    → put_in_order (put_by_name done (name, d)) (entries_of (put entry.0 entry.1 ms)) ≡ put_by_name (put_in_order (put_by_name done (name, d)) (entries_of ms)) entry
    → put_in_order done (entries_of (match_ordering o (member entry.0 entry.1 (member name d ms)) (member name entry.1 ms) (member name d (put entry.0 entry.1 ms))))
    ≡ put_by_name (put_in_order done (entries_of (member name d ms))) entry
put_at Less entry name d ms done other new more = moved entry (member name d ms) done new
put_at Equal entry name d ms done other new more = absurd (other refl)
put_at Greater entry name d ms done other new more = more

put_new : (entry : Entry) (ms : Members) (done : List Entry) → get_member entry.0 ms ≡ None
    → put_in_order done (entries_of (put entry.0 entry.1 ms)) ≡ put_by_name (put_in_order done (entries_of ms)) entry
put_new entry no_members done new = refl
put_new entry (member name d ms) done new =
    let split = none_at (slice_cmp nat_cmp entry.0 name) (get_member entry.0 ms) d new in
    put_at (slice_cmp nat_cmp entry.0 name) entry name d ms done split.0 new (put_new entry ms (put_by_name done (name, d)) split.1)

-- ---- entries whose names come in the order of header names

put_last : (entry : Entry) (done : List Entry) → AllByRecursion (λ (other : Entry). name_cmp entry.0 other.0 ≡ Greater) done
    → put_by_name done entry ≡ done ++ entry ∷ []
put_last entry [] after = refl
put_last entry (other ∷ done) after = rw after.0 (ap (λ (more : List Entry). other ∷ more) (put_last entry done after.1))

-- what is left comes behind what is done, and its names are new
pub record ComesLater (ms : Members) (done left : List Entry) : Type 0 where
  pub same : in_order (entries_of ms) ≡ done
  pub new : AllByRecursion (λ (entry : Entry). get_member entry.0 ms ≡ None) left
  pub later : AllByRecursion (λ (entry : Entry). AllByRecursion (λ (other : Entry). name_cmp entry.0 other.0 ≡ Greater) done) left

lower_apart : (name other : List ℕ) → slice_cmp nat_cmp (lower name) (lower other) ≡ Less → other ≡ name → ⊥
lower_apart name other before same =
    let equal = equal_of_same (lower name) (lower other) (sym (ap lower same)) in absurd cc

not_before : (name other : List ℕ) → slice_cmp nat_cmp (lower name) (lower other) ≡ Less → name_cmp other name ≡ Greater
not_before name other before =
    ap (λ (o : Ordering). ordering_then o (slice_cmp nat_cmp other name)) (after_flipped (lower name) (lower other) before)

all_and_last : (P : Entry → Type 0) (done : List Entry) (last : Entry) → AllByRecursion P done → P last → AllByRecursion P (done ++ last ∷ [])
all_and_last P [] last all here = (here, tt)
all_and_last P (first ∷ done) last all here = (all.0, all_and_last P done last all.1 here)

abbrev lowers : List Entry → List (List ℕ)
lowers entries = map (λ (entry : Entry). lower entry.0) entries

new_on : (entry : Entry) (ms : Members) (left : List Entry) → AllByRecursion (λ (other : Entry). get_member other.0 ms ≡ None) left
    → AllByRecursion (λ (name : List ℕ). slice_cmp nat_cmp (lower entry.0) name ≡ Less) (lowers left)
    → AllByRecursion (λ (other : Entry). get_member other.0 (put entry.0 entry.1 ms) ≡ None) left
new_on entry ms [] new before = tt
new_on entry ms (other ∷ left) new before =
    (get_member-put_other other.0 entry.0 entry.1 ms (lower_apart entry.0 other.0 before.0) ∙ new.0, new_on entry ms left new.1 before.1)

later_on : (entry : Entry) (done left : List Entry)
    → AllByRecursion (λ (other : Entry). AllByRecursion (λ (earlier : Entry). name_cmp other.0 earlier.0 ≡ Greater) done) left
    → AllByRecursion (λ (name : List ℕ). slice_cmp nat_cmp (lower entry.0) name ≡ Less) (lowers left)
    → AllByRecursion (λ (other : Entry). AllByRecursion (λ (earlier : Entry). name_cmp other.0 earlier.0 ≡ Greater) (done ++ entry ∷ [])) left
later_on entry done [] later before = tt
later_on entry done (other ∷ left) later before = (
  all_and_last (λ (earlier : Entry). name_cmp other.0 earlier.0 ≡ Greater) done entry later.0 (not_before entry.0 other.0 before.0),
  later_on entry done left later.1 before.1,
)

put_all_later : (ms : Members) (done left : List Entry) → ComesLater ms done left → IsStrictlySortedBy (slice_cmp nat_cmp) (lowers left)
    → in_order (entries_of (put_all ms left)) ≡ done ++ left
put_all_later ms done [] comes sorted = comes.same ∙ sym (append-nil done)
put_all_later ms done (entry ∷ left) comes sorted =
    let before = sorted_head (slice_cmp nat_cmp) (lower entry.0) (lowers left) sorted in
    put_all_later (put entry.0 entry.1 ms) (done ++ entry ∷ []) left (record {
      same = put_new entry ms [] comes.new.0 ∙ ap (λ (given : List Entry). put_by_name given entry) comes.same ∙ put_last entry done comes.later.0;
      new = new_on entry ms left comes.new.1 before;
      later = later_on entry done left comes.later.1 before;
    }) (sorted_tail (slice_cmp nat_cmp) (lower entry.0) (lowers left) sorted)
    ∙ append_assoc done (entry ∷ []) left

all_new : (left : List Entry) → AllByRecursion (λ (entry : Entry). get_member entry.0 no_members ≡ None) left
all_new [] = tt
all_new (entry ∷ left) = (refl, all_new left)

all_later : (left : List Entry) → AllByRecursion (λ (other : Entry). AllByRecursion (λ (earlier : Entry). name_cmp other.0 earlier.0 ≡ Greater) []) left
all_later [] = tt
all_later (entry ∷ left) = (tt, all_later left)

-- entries whose names come in the order of header names are read in this order, in whichever they stand as members
pub headers_in_order : (entries : List Entry) → IsStrictlySortedBy (slice_cmp nat_cmp) (map (λ (entry : Entry). lower entry.0) entries)
    → in_order (entries_of (put_all no_members entries)) ≡ entries
headers_in_order entries sorted =
    put_all_later no_members [] entries (record { same = refl; new = all_new entries; later = all_later entries }) sorted
