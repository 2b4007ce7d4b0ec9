-- Dealing in turn: what one more makes of the columns, that the latest one can be taken back, and what holds of all.
use Rattle.std.proofs.Common.{◌≡◌, ℕ, ◌+◌, ◌<◌, ◌%◌, List, [], ◌∷◌, ◌++◌, length, map, All, Option, None, Some, option_map, slice_get, slice_index_or, slice_set, sum_by, refl, sym, ap, ap₂, subst, ◌∙◌, arith}
use Rattle.std.proofs.lemmas.List.{set-set, set-get_or, length-set, get_or-set_same, length-map, map-set, same_from_push}
use Rattle.std.proofs.lemmas.List.Elements.{All-nil, All-cons, All-head, All-tail, All-get_or, All-pop, All-set}
use Rattle.std.proofs.lemmas.List.Sums.{sum_by-cons, sum_by_push, sum_by-set}
use Rattle.std.proofs.lemmas.Option.{same_Some, slice_get-map, slice_get_within, slice_get-get_or, get_or_from_slice_get}
use Rattle.edge_main.specs.Batched.{IsDealtTo, AreDealt}

-- ---- a list of which one place was set
set_same : {A : Type 0} (xs : List A) (k : ℕ) (x : A) → slice_get xs k ≡ Some x → slice_set xs k x ≡ xs
set_same xs k x at = ap (λ y. slice_set xs k y) (sym (get_or_from_slice_get xs k x x at)) ∙ set-get_or xs k x

get_set : {A : Type 0} (xs : List A) (k : ℕ) (x y : A) → slice_get xs k ≡ Some x → slice_get (slice_set xs k y) k ≡ Some y
get_set xs k x y at =
    let within : k < length xs = slice_get_within xs k x at in
    slice_get-get_or (slice_set xs k y) k y (omega (arith, length-set xs k y)) ∙ ap Some (get_or-set_same xs k y y within)

-- ---- dealing

-- nothing was dealt
pub dealt_none : {A : Type 0} (columns : List (List A)) → All (λ column. column ≡ []) columns → AreDealt [] columns
dealt_none columns empty = empty

-- one more
pub dealt_more : {A : Type 0} (one : A) (earlier : List A) (before after : List (List A)) → AreDealt earlier before
    → IsDealtTo (length earlier % length before) one before after → AreDealt (one ∷ earlier) after
dealt_more one earlier before after dealt to = (before, dealt, to)

-- there are as many columns as before
pub dealt_length : {A : Type 0} (place : ℕ) (one : A) (before after : List (List A)) → IsDealtTo place one before after
    → length after ≡ length before
dealt_length place one before after to = ap length to.2 ∙ length-set before place (to.0 ++ one ∷ [])

-- the one that was dealt last ends its column, and without it all are as they were before
pub record LastDealt {A : Type 0} (one : A) (earlier : List A) (columns : List (List A)) : Type 0 where
  pub column : List A
  pub at : slice_get columns (length earlier % length columns) ≡ Some (column ++ one ∷ [])
  pub without : AreDealt earlier (slice_set columns (length earlier % length columns) column)

pub dealt_last : {A : Type 0} (one : A) (earlier : List A) (columns : List (List A)) → AreDealt (one ∷ earlier) columns
    → LastDealt one earlier columns
dealt_last one earlier columns (before, was, to) =
    let place = length earlier % length before in
    let longer = to.0 ++ one ∷ [] in
    let placed : length earlier % length (slice_set before place longer) ≡ place =
    ap (λ n. length earlier % n) (length-set before place longer) in
    subst (λ cs. LastDealt one earlier cs) (sym to.2)
    (record {
      column = to.0;
      at = ap (λ p. slice_get (slice_set before place longer) p) placed ∙ get_set before place to.0 longer to.1;
      without =
          subst (λ cs. AreDealt earlier cs)
          (sym (ap (λ p. slice_set (slice_set before place longer) p to.0) placed ∙ set-set before place longer to.0 ∙ set_same before place to.0 to.1))
          was;
    })

-- the other way round: with it at the end of its column
pub dealt_back : {A : Type 0} (one : A) (earlier : List A) (columns : List (List A)) (place : ℕ) (column : List A)
    → slice_get columns place ≡ Some (column ++ one ∷ []) → place ≡ length earlier % length columns
    → AreDealt earlier (slice_set columns place column) → AreDealt (one ∷ earlier) columns
dealt_back one earlier columns place column at its was =
    let longer = column ++ one ∷ [] in
    let placed : length earlier % length (slice_set columns place column) ≡ place =
    ap (λ n. length earlier % n) (length-set columns place column) ∙ sym its in (
      slice_set columns place column,
      was,
      (
        column,
        ap (λ p. slice_get (slice_set columns place column) p) placed ∙ get_set columns place longer column at,
        sym (ap (λ p. slice_set (slice_set columns place column) p longer) placed ∙ set-set columns place column longer ∙ set_same columns place longer at),
      ),
    )

-- what stands at the end of its column is the one that was dealt last
pub dealt_popped : {A : Type 0} (one : A) (earlier : List A) (columns : List (List A)) (rest : List A) (last : A)
    → AreDealt (one ∷ earlier) columns → slice_get columns (length earlier % length columns) ≡ Some (rest ++ last ∷ [])
    → (last ≡ one) × AreDealt earlier (slice_set columns (length earlier % length columns) rest)
dealt_popped one earlier columns rest last dealt at =
    let latest = dealt_last one earlier columns dealt in
    let same = same_from_push rest latest.column last one (same_Some (rest ++ last ∷ []) (latest.column ++ one ∷ []) (sym at ∙ latest.at)) in
    (same.1, subst (λ column. AreDealt earlier (slice_set columns (length earlier % length columns) column)) (sym same.0) latest.without)

-- ---- what stands for what was dealt
some_mapped : {A B : Type 0} (f : A → B) (o : Option A) (y : B) → option_map f o ≡ Some y → (x : A) × (o ≡ Some x) × (f x ≡ y)
some_mapped f None y is = absurd (cc)
some_mapped f (Some x) y is = (x, refl, cc)

none_mapped : {A B : Type 0} (f : A → B) (xs : List A) → map f xs ≡ [] → xs ≡ []
none_mapped f [] is = refl
none_mapped f (x ∷ xs) is = let some : f x ∷ map f xs ≡ [] = is in absurd (cc)

empty_mapped : {A B : Type 0} (f : A → B) (columns : List (List A)) → All (λ column. column ≡ []) (map (map f) columns)
    → All (λ column. column ≡ []) columns
empty_mapped f [] empty = All-nil (λ column. column ≡ [])
empty_mapped {A} {B} f (column ∷ columns) empty =
    All-cons (λ (c : List A). c ≡ []) column columns
    (none_mapped f column (All-head (λ (c : List B). c ≡ []) (map f column) (map (map f) columns) empty))
    (empty_mapped f columns (All-tail (λ (c : List B). c ≡ []) (map f column) (map (map f) columns) empty))

record MappedPush {A B : Type 0} (f : A → B) (xs : List A) (ys : List B) (y : B) : Type 0 where
  front : List A
  last : A
  is : xs ≡ front ++ last ∷ []
  front_is : map f front ≡ ys
  last_is : f last ≡ y

mapped_push : {A B : Type 0} (f : A → B) (xs : List A) (ys : List B) (y : B) → map f xs ≡ ys ++ y ∷ [] → MappedPush f xs ys y
mapped_push f [] [] y is = let none : [] ≡ y ∷ [] = is in absurd (cc)
mapped_push f [] (z ∷ ys) y is = let none : [] ≡ z ∷ (ys ++ y ∷ []) = is in absurd (cc)
mapped_push f (x ∷ xs) [] y is =
    let some : f x ∷ map f xs ≡ y ∷ [] = is in
    let none : map f xs ≡ [] = cc in
    record { front = []; last = x; is = ap (λ rest. x ∷ rest) (none_mapped f xs none); front_is = refl; last_is = cc }
mapped_push f (x ∷ xs) (z ∷ ys) y is =
    let some : f x ∷ map f xs ≡ z ∷ (ys ++ y ∷ []) = is in
    let tail : map f xs ≡ ys ++ y ∷ [] = cc in
    let head : f x ≡ z = cc in
    let rest = mapped_push f xs ys y tail in
    record {
      front = x ∷ rest.front;
      last = rest.last;
      is = ap (λ more. x ∷ more) rest.is;
      front_is = ap₂ (λ one more. one ∷ more) head rest.front_is;
      last_is = rest.last_is;
    }

mapped_without : {A B : Type 0} (f : A → B) (columns : List (List A)) (place : ℕ) (front : List A) (column earlier : List B) → map f front ≡ column
    → AreDealt earlier (slice_set (map (map f) columns) place column) → AreDealt earlier (map (map f) (slice_set columns place front))
mapped_without f columns place front column earlier is dealt =
    subst (λ cs. AreDealt earlier cs)
    (sym (map-set (map f) columns place front ∙ ap (λ c. slice_set (map (map f) columns) place c) is)) dealt

same_place : {A B : Type 0} (f : A → B) (these : List A) (all : List B) (columns : List (List A)) → map f these ≡ all
    → length all % length (map (map f) columns) ≡ length these % length columns
same_place f these all columns for_all =
    ap₂ (λ m n. m % n) (sym (ap length for_all) ∙ length-map these f) (length-map columns (map f))

-- these were dealt, and what they stand for was dealt
pub record DealtFor {A B : Type 0} (f : A → B) (all : List B) (columns : List (List A)) : Type 0 where
  pub these : List A
  pub dealt : AreDealt these columns
  pub for_all : map f these ≡ all

pub dealt_map : {A B : Type 0} (f : A → B) (all : List B) (columns : List (List A)) → AreDealt all (map (map f) columns)
    → DealtFor f all columns
dealt_map f [] columns dealt = record { these = []; dealt = empty_mapped f columns dealt; for_all = refl }
dealt_map f (one ∷ earlier) columns dealt =
    let latest = dealt_last one earlier (map (map f) columns) dealt in
    let place = length earlier % length (map (map f) columns) in
    let (whole, at, whole_is) =
    some_mapped (map f) (slice_get columns place) (latest.column ++ one ∷ []) (sym (slice_get-map (map f) columns place) ∙ latest.at) in
    let split = mapped_push f whole latest.column one whole_is in
    let rest = dealt_map f earlier (slice_set columns place split.front) (mapped_without f columns place split.front latest.column earlier split.front_is latest.without) in
    record {
      these = split.last ∷ rest.these;
      dealt =
          dealt_back split.last rest.these columns place split.front (at ∙ ap Some split.is)
          (same_place f rest.these earlier columns rest.for_all) rest.dealt;
      for_all = cc (split.last_is, rest.for_all);
    }

-- ---- what holds of the columns holds of all that were dealt
sum_none : {A : Type 0} (f : A → ℕ) (columns : List (List A)) → All (λ column. column ≡ []) columns
    → sum_by (λ column. sum_by f column) columns ≡ 0
sum_none f [] empty = refl
sum_none {A} f (column ∷ columns) empty =
    let head : sum_by f column ≡ 0 = ap (λ c. sum_by f c) (All-head (λ (c : List A). c ≡ []) column columns empty) in
    let tail = sum_none f columns (All-tail (λ (c : List A). c ≡ []) column columns empty) in
    sum_by-cons (λ column. sum_by f column) column columns ∙ ap₂ (λ m n. m + n) head tail

-- a sum over the columns is the sum over all
pub dealt_sum : {A : Type 0} (f : A → ℕ) (all : List A) (columns : List (List A)) → AreDealt all columns
    → sum_by (λ column. sum_by f column) columns ≡ sum_by f all
dealt_sum f [] columns dealt = sum_none f columns dealt
dealt_sum f (one ∷ earlier) columns dealt =
    let latest = dealt_last one earlier columns dealt in
    let place = length earlier % length columns in
    let longer = latest.column ++ one ∷ [] in
    let rest = dealt_sum f earlier (slice_set columns place latest.column) latest.without in
    let set = sum_by-set (λ column. sum_by f column) columns place latest.column longer (slice_get_within columns place longer latest.at) in
    let this : sum_by f (slice_index_or columns place longer) ≡ sum_by f latest.column + f one =
    ap (λ c. sum_by f c) (get_or_from_slice_get columns place longer longer latest.at) ∙ sum_by_push f latest.column one in
    let total : sum_by (λ column. sum_by f column) columns ≡ f one + sum_by f earlier = omega (arith, rest, set, this) in
    total ∙ sym (sum_by-cons f one earlier)

-- what holds of each in each column holds of all
pub dealt_all : {A : Type 0} (P : A → Type 0) (all : List A) (columns : List (List A)) → AreDealt all columns
    → All (λ column. All P column) columns → All P all
dealt_all P [] columns dealt each = All-nil P
dealt_all P (one ∷ earlier) columns dealt each =
    let latest = dealt_last one earlier columns dealt in
    let place = length earlier % length columns in
    let longer = latest.column ++ one ∷ [] in
    let those : All P longer =
    subst (λ column. All P column) (get_or_from_slice_get columns place longer longer latest.at)
    (All-get_or (λ column. All P column) columns place longer (slice_get_within columns place longer latest.at) each) in
    let parts = All-pop P longer latest.column (Some one) refl those in
    All-cons P one earlier parts.1
    (dealt_all P earlier (slice_set columns place latest.column) latest.without
    (All-set (λ column. All P column) columns place latest.column parts.0 each))

-- what was dealt to these columns is told by them, where it is known how much it is
pub dealt_unique : {A : Type 0} (xs ys : List A) (columns : List (List A)) → AreDealt xs columns → AreDealt ys columns
    → length xs ≡ length ys → xs ≡ ys
dealt_unique [] [] columns these those same = refl
dealt_unique [] (y ∷ ys) columns these those same = absurd (omega (arith, same))
dealt_unique (x ∷ xs) [] columns these those same = absurd (omega (arith, same))
dealt_unique (x ∷ xs) (y ∷ ys) columns these those same =
    let latest = dealt_last x xs columns these in
    let long : length xs ≡ length ys = omega (arith, same) in
    let at : slice_get columns (length ys % length columns) ≡ Some (latest.column ++ x ∷ []) =
    ap (λ n. slice_get columns (n % length columns)) (sym long) ∙ latest.at in
    let popped = dealt_popped y ys columns latest.column x those at in
    let without : AreDealt ys (slice_set columns (length xs % length columns) latest.column) =
    subst (λ n. AreDealt ys (slice_set columns (n % length columns) latest.column)) (sym long) popped.1 in
    ap₂ (λ one more. one ∷ more) popped.0
    (dealt_unique xs ys (slice_set columns (length xs % length columns) latest.column) latest.without without long)
