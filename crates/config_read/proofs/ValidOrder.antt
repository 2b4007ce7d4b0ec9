-- Names of headers are read in order; where none of them is refused, their lower cases differ.
use Rattle.std.proofs.Common.{◌≡◌, ◌||◌, ◌&&◌, ◌+◌, ℕ, Bool, cond, true, false, not, nat_lt, List, [], ◌∷◌, ◌++◌, map, length, None, refl, sym, ap, ◌∙◌, subst, true≢false, bytes_eq, Ordering, Less, Equal, Greater, nat_cmp, arith}
use Rattle.std.specs.List.{AllByRecursion, list_any, list_all}
use Rattle.std.specs.List.Sorted.{IsStrictlySortedBy}
use Rattle.std.specs.Char.{to_ascii_lowercase, is_ascii_alphanumeric}
use Rattle.std.specs.Cmp.{IsTotalOrder, on_total, then_total}
use Rattle.std.specs.Cmp.Lexicographic.{slice_cmp, nat_list_cmp_total}
use Rattle.std.specs.Ordering.{match_ordering, ordering_then, ordering_reverse, is_eq}
use Rattle.std.specs.Str.{str_to_ascii_lowercase, str_eq_ignore_ascii_case}
use Rattle.std.proofs.lemmas.Bool.{lt-ltb}
use Rattle.std.proofs.lemmas.Bool.Decides.{nat_tests}
use Rattle.std.proofs.lemmas.Map.Keys.{sorted_head, sorted_tail}
use Rattle.std.proofs.lemmas.Map.Text.{is_eq-slice_cmp}
use Rattle.std.proofs.lemmas.Slice.Eq.{bytes_eq-Decides}
use Rattle.serde_json.specs.Data.{Data}
use Rattle.type_check.specs.declared.fault.Place.{Place}
use Rattle.ruleset_model.specs.Data.{HeaderRewriteData}
use Rattle.ruleset_model.specs.Forms.{is_rewritable, is_token_byte}
use Rattle.config_read.specs.Forms.{is_token, is_fixed_header}
use Rattle.config_read.specs.Judged.{Judgement}
use Rattle.config_read.specs.Refusals.{each}
use Rattle.config_read.specs.Rewrites.{lower, name_cmp, put_by_name, put_in_order, in_order, has_header, header_table, header_at}
use Rattle.config_read.proofs.BoolLemmas.{shown, neither_left, neither_right, both, both_left, both_right}

abbrev pub Entry : Type 0
Entry = List ℕ × Data

abbrev names : List Entry → List (List ℕ)
names entries = map (λ (entry : Entry). entry.0) entries

abbrev pub lowers : List Entry → List (List ℕ)
lowers entries = map (λ (entry : Entry). lower entry.0) entries

-- ---- the order of names

name_order : IsTotalOrder name_cmp
name_order = then_total (on_total lower nat_list_cmp_total) nat_list_cmp_total

turned : (name other : List ℕ) → name_cmp name other ≡ Greater → name_cmp other name ≡ Less
turned name other e = name_order.antisymm other name ∙ ap ordering_reverse e

same_name : (name other : List ℕ) → slice_cmp nat_cmp name other ≡ Equal → name ≡ other
same_name name other equal = (bytes_eq-Decides name other).0 (sym (is_eq-slice_cmp name other) ∙ ap is_eq equal)

same_then : (first : Ordering) (name other : List ℕ) → ordering_then first (slice_cmp nat_cmp name other) ≡ Equal → name ≡ other
same_then Less name other equal = absurd cc
same_then Equal name other equal = same_name name other equal
same_then Greater name other equal = absurd cc

-- ---- entries that are put in their places are in order

put_among : (P : List ℕ → Type 0) (done : List Entry) (entry : Entry) → AllByRecursion P (names done) → P entry.0 → AllByRecursion P (names (put_by_name done entry))
put_among P [] entry all here = (here, tt)
put_among P (other ∷ rest) entry all here = among_at (name_cmp entry.0 other.0) (put_among P rest entry all.1 here)
  where
    among_at : (o : Ordering) → AllByRecursion P (names (put_by_name rest entry))
        → AllByRecursion P (names (match_ordering o (entry ∷ other ∷ rest) (entry ∷ rest) (other ∷ put_by_name rest entry)))
    among_at Less more = (here, all)
    among_at Equal more = (here, all.1)
    among_at Greater more = (all.0, more)

behind_first : (name first : List ℕ) (rest : List (List ℕ)) → name_cmp name first ≡ Less → AllByRecursion (λ (other : List ℕ). name_cmp first other ≡ Less) rest
    → AllByRecursion (λ (other : List ℕ). name_cmp name other ≡ Less) rest
behind_first name first [] before all = tt
behind_first name first (other ∷ rest) before all = (name_order.trans name first other before all.0, behind_first name first rest before all.1)

put_at : (o : Ordering) (entry other : Entry) (rest : List Entry) → name_cmp entry.0 other.0 ≡ o → IsStrictlySortedBy name_cmp (names (other ∷ rest))
    → IsStrictlySortedBy name_cmp (names (put_by_name rest entry))
    → IsStrictlySortedBy name_cmp (names (match_ordering o (entry ∷ other ∷ rest) (entry ∷ rest) (other ∷ put_by_name rest entry)))
unfolding IsStrictlySortedBy
put_at Less entry other rest e sorted more = ((e, behind_first entry.0 other.0 (names rest) e sorted.0), sorted)
put_at Equal entry other rest e sorted more =
    let same : entry.0 ≡ other.0 = same_then (slice_cmp nat_cmp (lower entry.0) (lower other.0)) entry.0 other.0 e in
    (subst (λ (name : List ℕ). AllByRecursion (λ (next : List ℕ). name_cmp name next ≡ Less) (names rest)) (sym same) sorted.0, sorted.1)
put_at Greater entry other rest e sorted more =
    (put_among (λ (next : List ℕ). name_cmp other.0 next ≡ Less) rest entry sorted.0 (turned entry.0 other.0 e), more)

put_sorted : (done : List Entry) (entry : Entry) → IsStrictlySortedBy name_cmp (names done) → IsStrictlySortedBy name_cmp (names (put_by_name done entry))
unfolding IsStrictlySortedBy
put_sorted [] entry sorted = (tt, tt)
put_sorted (other ∷ rest) entry sorted = put_at (name_cmp entry.0 other.0) entry other rest refl sorted (put_sorted rest entry sorted.1)

all_sorted : (done given : List Entry) → IsStrictlySortedBy name_cmp (names done) → IsStrictlySortedBy name_cmp (names (put_in_order done given))
all_sorted done [] sorted = sorted
all_sorted done (entry ∷ given) sorted = all_sorted (put_by_name done entry) given (put_sorted done entry sorted)

none_sorted : IsStrictlySortedBy name_cmp []
unfolding IsStrictlySortedBy
none_sorted = tt

in_order_sorted : (given : List Entry) → IsStrictlySortedBy name_cmp (names (in_order given))
in_order_sorted given = all_sorted [] given none_sorted

-- what holds of each entry that was given holds of each in order
abbrev pub OfEach : (Entry → Type 0) → List Entry → Type 0
OfEach P entries = AllByRecursion P entries

each_put : (P : Entry → Type 0) (done : List Entry) (entry : Entry) → OfEach P done → P entry → OfEach P (put_by_name done entry)
each_put P [] entry all here = (here, tt)
each_put P (other ∷ rest) entry all here = put_here (name_cmp entry.0 other.0) (each_put P rest entry all.1 here)
  where
    put_here : (o : Ordering) → OfEach P (put_by_name rest entry)
        → OfEach P (match_ordering o (entry ∷ other ∷ rest) (entry ∷ rest) (other ∷ put_by_name rest entry))
    put_here Less more = (here, all)
    put_here Equal more = (here, all.1)
    put_here Greater more = (all.0, more)

each_in : (P : Entry → Type 0) (done given : List Entry) → OfEach P done → OfEach P given → OfEach P (put_in_order done given)
each_in P done [] all more = all
each_in P done (entry ∷ given) all more = each_in P (put_by_name done entry) given (each_put P done entry all more.0) more.1

pub each_in_order : (P : Entry → Type 0) (given : List Entry) → OfEach P given → OfEach P (in_order given)
each_in_order P given all = each_in P [] given tt all

-- ---- names that aren't refused

-- the header is one of these
abbrev IsAmong : HeaderRewriteData → List HeaderRewriteData → Type 0
IsAmong header earlier = (p : HeaderRewriteData → Bool) → list_any p earlier ≡ false → p header ≡ false

any_front : (p : HeaderRewriteData → Bool) (xs ys : List HeaderRewriteData) → list_any p (xs ++ ys) ≡ false → list_any p xs ≡ false
any_front p [] ys none = refl
any_front p (x ∷ xs) ys none =
    let here = neither_left (p x) (list_any p (xs ++ ys)) none in
    rw here (any_front p xs ys (neither_right (p x) (list_any p (xs ++ ys)) none))

last_among : (earlier : List HeaderRewriteData) (header : HeaderRewriteData) → IsAmong header (earlier ++ header ∷ [])
last_among [] header = λ p none. neither_left (p header) false none
last_among (x ∷ earlier) header = λ p none. last_among earlier header p (neither_right (p x) (list_any p (earlier ++ header ∷ [])) none)

module _ (judge : Judgement) (at : Place) (headers : List ℕ) where
  -- none of the entries that are left has the name of one before them
  apart : (header : HeaderRewriteData) (earlier : List HeaderRewriteData) (left : List Entry) → IsAmong header earlier
      → each (header_table judge at headers) header_at earlier left None
      → AllByRecursion (λ (name : List ℕ). str_eq_ignore_ascii_case name header.name ≡ false) (names left)
  unfolding header_table
  apart header earlier [] among passed = tt
  apart header earlier (entry ∷ left) among passed = (
    among (λ (other : HeaderRewriteData). str_eq_ignore_ascii_case entry.0 other.name) (neither_right (not (is_token entry.0)) (has_header earlier entry.0) passed.0.1.0.0),
    apart header (earlier ++ header_at entry ∷ []) left (λ p none. among p (any_front p earlier (header_at entry ∷ []) none)) passed.1,
  )

  lower_before : (o : Ordering) (name other : List ℕ) → slice_cmp nat_cmp (lower name) (lower other) ≡ o → name_cmp name other ≡ Less
      → str_eq_ignore_ascii_case other name ≡ false → slice_cmp nat_cmp (lower name) (lower other) ≡ Less
  lower_before Less name other e before differ = e
  lower_before Equal name other e before differ =
      absurd (true≢false (sym ((bytes_eq-Decides (lower other) (lower name)).1 (sym (same_name (lower name) (lower other) e))) ∙ differ))
  lower_before Greater name other e before differ =
      let told : name_cmp name other ≡ Greater = ap (λ (o : Ordering). ordering_then o (slice_cmp nat_cmp name other)) e in absurd cc

  lowers_behind : (name : List ℕ) (left : List Entry) → AllByRecursion (λ (other : List ℕ). name_cmp name other ≡ Less) (names left)
      → AllByRecursion (λ (other : List ℕ). str_eq_ignore_ascii_case other name ≡ false) (names left)
      → AllByRecursion (λ (other : List ℕ). slice_cmp nat_cmp (lower name) other ≡ Less) (lowers left)
  lowers_behind name [] before differ = tt
  lowers_behind name (entry ∷ left) before differ =
      (lower_before (slice_cmp nat_cmp (lower name) (lower entry.0)) name entry.0 refl before.0 differ.0, lowers_behind name left before.1 differ.1)

  lowers_sorted_from : (earlier : List HeaderRewriteData) (left : List Entry) → IsStrictlySortedBy name_cmp (names left)
      → each (header_table judge at headers) header_at earlier left None → IsStrictlySortedBy (slice_cmp nat_cmp) (lowers left)
  unfolding IsStrictlySortedBy
  lowers_sorted_from earlier [] sorted passed = tt
  lowers_sorted_from earlier (entry ∷ left) sorted passed = (
    lowers_behind entry.0 left sorted.0
        (apart (header_at entry) (earlier ++ header_at entry ∷ []) left (last_among earlier (header_at entry)) passed.1),
    lowers_sorted_from (earlier ++ header_at entry ∷ []) left sorted.1 passed.1,
  )

  -- the lower cases of the names are in byte order, each once
  pub lowers_sorted : (given : List Entry) → each (header_table judge at headers) header_at [] (in_order given) None
      → IsStrictlySortedBy (slice_cmp nat_cmp) (lowers (in_order given))
  lowers_sorted given passed = lowers_sorted_from [] (in_order given) (in_order_sorted given) passed

-- ---- the form of a name

small_letter : (b : ℕ) → nat_lt b 65 ≡ false → nat_lt b 91 ≡ true → is_ascii_alphanumeric (b + 32) ≡ true
small_letter b low high = grind (arith, nat_tests)

lower_byte_as : (b : ℕ) (low high : Bool) → nat_lt b 65 ≡ low → nat_lt b 91 ≡ high → is_token_byte b ≡ true → is_token_byte (cond low b (cond high (b + 32) b)) ≡ true
lower_byte_as b true high e1 e2 is = is
lower_byte_as b false true e1 e2 is = rw (small_letter b e1 e2) refl
lower_byte_as b false false e1 e2 is = is

lower_byte : (b : ℕ) → is_token_byte b ≡ true → is_token_byte (to_ascii_lowercase b) ≡ true
lower_byte b is = lower_byte_as b (nat_lt b 65) (nat_lt b 91) refl refl is

lower_bytes : (name : List ℕ) → list_all is_token_byte name ≡ true → list_all is_token_byte (lower name) ≡ true
lower_bytes [] all = refl
lower_bytes (b ∷ name) all =
    let first = lower_byte b (both_left (is_token_byte b) (list_all is_token_byte name) all) in
    rw first (lower_bytes name (both_right (is_token_byte b) (list_all is_token_byte name) all))

free : (b : Bool) → b ≡ false → not b ≡ true
free true e = absurd (true≢false e)
free false e = refl

token_rewritable : (name : List ℕ) → is_token name ≡ true → is_fixed_header (lower name) ≡ false → is_rewritable (lower name) ≡ true
token_rewritable [] is other = absurd (true≢false (sym is))
token_rewritable (b ∷ name) is other =
    both _ _
    (both _ _ (lt-ltb 0 (length (lower (b ∷ name))) (omega arith))
    (lower_bytes (b ∷ name) (both_right (nat_lt 0 (length (b ∷ name))) (list_all is_token_byte (b ∷ name)) is)))
    (free (is_fixed_header (lower (b ∷ name))) other)

pub name_rewritable : (earlier : List HeaderRewriteData) (name : List ℕ) → (not (is_token name) || has_header earlier name) ≡ false
    → is_fixed_header (lower name) ≡ false → is_rewritable (lower name) ≡ true
name_rewritable earlier name named other =
    token_rewritable name (shown (is_token name) (neither_left (not (is_token name)) (has_header earlier name) named)) other
