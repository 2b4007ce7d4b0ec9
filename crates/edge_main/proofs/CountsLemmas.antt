-- The steps of a caller, as its lines show them: where they stand in the history of all, and how often each place is shown.
use Rattle.std.proofs.Common.{◌≡◌, ℕ, zero, suc, ◌+◌, ◌-◌, ◌<◌, ◌≤◌, ◌==◌, ◌⊎◌, Bool, true, false, cond, nat_eq, nat_lt, List, [], ◌∷◌, ◌++◌, length, All, Option, None, Some, slice_get, inl, inr, refl, sym, ap, ap₂, ◌∙◌, arith, append_assoc, length-append}
use Rattle.std.proofs.lemmas.Bool.{cases_eq, cases_order, cond_both, eq-eqb, ne_eqb, lt-ltb, le-ltb}
use Rattle.std.proofs.lemmas.List.{get_or_at}
use Rattle.std.proofs.lemmas.List.Elements.{All-head, All-tail}
use Rattle.std.proofs.lemmas.Option.{slice_get_read}
use Rattle.rate_plain.specs.History.{own_of}
use Rattle.rate_plain.specs.declared.entry.Counted.{Counted}
use Rattle.rate_plain.specs.declared.entry.Entry.{Entry}
use Rattle.gate_run.specs.Went.{counts_from}
use Rattle.edge_main.specs.Shown.{positions_of}
use Rattle.edge_main.specs.Spread.{AreShown, AreIncreasing, times}

-- ---- the steps of a caller, as they are shown
joined : (test : Bool) (step : Counted) (all some more : List Counted) → all ≡ some ++ more
    → cond test (step ∷ all) all ≡ cond test (step ∷ some) some ++ more
joined true step all some more same = ap (λ steps. step ∷ steps) same
joined false step all some more same = same

-- the entries go on
pub counts-append : (caller place : ℕ) (xs ys : List Entry)
    → counts_from caller place (xs ++ ys) ≡ counts_from caller place xs ++ counts_from caller (place + length xs) ys
counts-append caller place [] ys = let here : place ≡ place + 0 = omega arith in ap (λ n. counts_from caller n ys) here
counts-append caller place (x ∷ xs) ys =
    let further : suc place + length xs ≡ place + suc (length xs) = omega arith in
    joined (x.caller == caller) (record { position = place; answer = x.answer }) (counts_from caller (suc place) (xs ++ ys))
    (counts_from caller (suc place) xs) (counts_from caller (place + suc (length xs)) ys)
    (counts-append caller (suc place) xs ys ∙ ap (λ n. counts_from caller (suc place) xs ++ counts_from caller n ys) further)

none_shown : (test : Bool) (entry : Entry) (step : Counted) (own : List Entry) (steps : List Counted) → cond test (entry ∷ own) own ≡ []
    → (own ≡ [] → steps ≡ []) → cond test (step ∷ steps) steps ≡ []
none_shown true entry step own steps none rest = let some : entry ∷ own ≡ [] = none in absurd (cc)
none_shown false entry step own steps none rest = rest none

-- of entries among which none is the caller's none is shown
pub counts-none : (caller place : ℕ) (xs : List Entry) → own_of xs caller ≡ [] → counts_from caller place xs ≡ []
counts-none caller place [] none = refl
counts-none caller place (x ∷ xs) none =
    none_shown (x.caller == caller) x (record { position = place; answer = x.answer }) (own_of xs caller) (counts_from caller (suc place) xs)
    none (counts-none caller (suc place) xs)

-- each own entry stands where its step says
shown_more : (test : Bool) (whole own : List Entry) (x : Entry) (place : ℕ) (steps : List Counted) → slice_get whole place ≡ Some x
    → AreShown whole own steps
    → AreShown whole (cond test (x ∷ own) own) (cond test (record { position = place; answer = x.answer } ∷ steps) steps)
shown_more true whole own x place steps here rest = (here, refl, rest)
shown_more false whole own x place steps here rest = rest

pub counts_shown : (whole before xs after : List Entry) (caller place : ℕ) → whole ≡ before ++ (xs ++ after) → length before ≡ place
    → AreShown whole (own_of xs caller) (counts_from caller place xs)
counts_shown whole before [] after caller place is at = tt
counts_shown whole before (x ∷ xs) after caller place is at =
    let entries = before ++ x ∷ (xs ++ after) in
    let within : place < length entries = omega (arith, at, length-append before (x ∷ (xs ++ after))) in
    let here : slice_get whole place ≡ Some x =
    ap (λ (all : List Entry). slice_get all place) is
    ∙ slice_get_read entries (length entries) place x refl within (sym (get_or_at before x (xs ++ after) x place at)) in
    shown_more (x.caller == caller) whole (own_of xs caller) x place (counts_from caller (suc place) xs) here
    (counts_shown whole (before ++ x ∷ []) xs after caller (suc place) (is ∙ sym (append_assoc before (x ∷ []) (xs ++ after)))
    (omega (arith, at, length-append before (x ∷ []))))

-- their places increase
increase_more : (test : Bool) (least : ℕ) (step : Counted) (steps : List Counted) → least ≤ step.position
    → AreIncreasing (step.position + 1) (positions_of steps) → AreIncreasing least (positions_of steps)
    → AreIncreasing least (positions_of (cond test (step ∷ steps) steps))
increase_more true least step steps from with_it without_it = (from, with_it)
increase_more false least step steps from with_it without_it = without_it

pub counts_increase : (least caller place : ℕ) (xs : List Entry) → least ≤ place → AreIncreasing least (positions_of (counts_from caller place xs))
counts_increase least caller place [] from = tt
counts_increase least caller place (x ∷ xs) from =
    increase_more (x.caller == caller) least (record { position = place; answer = x.answer }) (counts_from caller (suc place) xs) from
    (counts_increase (place + 1) caller (suc place) xs (omega arith)) (counts_increase least caller (suc place) xs (omega arith))

-- ---- how often a place is shown
pub times-append : (p : ℕ) (xs ys : List ℕ) → times p (xs ++ ys) ≡ times p xs + times p ys
times-append p [] ys = omega arith
times-append p (x ∷ xs) ys = omega (arith, times-append p xs ys)

-- 1 from a to before b, and else 0
abbrev pub once_within : ℕ → ℕ → ℕ → ℕ
once_within p a b = cond (nat_lt p a) 0 (cond (nat_lt p b) 1 0)

within_none : (p a : ℕ) → once_within p a a ≡ 0
within_none p a = grind (arith)

within_more : (p a b : ℕ) → a < b → once_within p a b ≡ cond (nat_eq p a) 1 0 + once_within p (suc a) b
within_more p a b below = grind (arith)

times_first : (p : ℕ) (test : Bool) (step : Counted) (rest : List Counted)
    → times p (positions_of (cond test (step ∷ rest) rest)) ≡ cond test (cond (nat_eq p step.position) 1 0) 0 + times p (positions_of rest)
times_first p true step rest = refl
times_first p false step rest = omega arith

-- how often this entry is the caller's
abbrev pub own_at : ℕ → Option Entry → ℕ
own_at caller None = 0
own_at caller (Some entry) = cond (entry.caller == caller) 1 0

-- a place is shown once where the entry there is the caller's, and else not
pub counts_at : (caller p place : ℕ) (xs : List Entry)
    → times p (positions_of (counts_from caller place xs)) ≡ cond (nat_lt p place) 0 (own_at caller (slice_get xs (p - place)))
counts_at caller p place [] = cond_both (nat_lt p place) 0 0 (λ n. 0 ≡ n) (λ e. refl) (λ e. refl)
counts_at caller p place (x ∷ xs) =
    times_first p (x.caller == caller) (record { position = place; answer = x.answer }) (counts_from caller (suc place) xs)
    ∙ ap (λ n. cond (x.caller == caller) (cond (nat_eq p place) 1 0) 0 + n) (counts_at caller p (suc place) xs) ∙ by (cases_order p place)
  where
    by : (p ≡ place) ⊎ ((p < place) ⊎ (place < p))
        → cond (x.caller == caller) (cond (nat_eq p place) 1 0) 0 + cond (nat_lt p (suc place)) 0 (own_at caller (slice_get xs (p - suc place)))
        ≡ cond (nat_lt p place) 0 (own_at caller (slice_get (x ∷ xs) (p - place)))
    by (inl here) =
        let eq : nat_eq p place ≡ true = eq-eqb p place here in
        let lt : nat_lt p (suc place) ≡ true = lt-ltb p (suc place) (omega arith) in
        let not_lt : nat_lt p place ≡ false = le-ltb p place (omega arith) in
        let none : p - place ≡ 0 = omega arith in
        rw (eq, lt, not_lt, none) (omega arith)
    by (inr (inl before)) =
        let not_eq : nat_eq p place ≡ false = ne_eqb p place (λ same. omega arith) in
        let lt : nat_lt p (suc place) ≡ true = lt-ltb p (suc place) (omega arith) in
        let also : nat_lt p place ≡ true = lt-ltb p place before in
        rw (not_eq, lt, also) (cond_both (x.caller == caller) 0 0 (λ n. n + 0 ≡ 0) (λ e. refl) (λ e. refl))
    by (inr (inr past)) =
        let not_eq : nat_eq p place ≡ false = ne_eqb p place (λ same. omega arith) in
        let not_lt : nat_lt p (suc place) ≡ false = le-ltb p (suc place) (omega arith) in
        let also : nat_lt p place ≡ false = le-ltb p place (omega arith) in
        let further : p - place ≡ suc (p - suc place) = omega arith in
        rw (not_eq, not_lt, also, further)
        (cond_both (x.caller == caller) 0 0 (λ n. n + own_at caller (slice_get xs (p - suc place)) ≡ own_at caller (slice_get xs (p - suc place)))
        (λ e. omega arith) (λ e. omega arith))

-- ---- sums over callers

-- over so many numbers, from the first on
abbrev pub sum_on : (ℕ → ℕ) → ℕ → ℕ → ℕ
sum_on f first zero = 0
sum_on f first (suc more) = f first + sum_on f (suc first) more

sum_on-none : (first more : ℕ) → sum_on (λ k. 0) first more ≡ 0
sum_on-none first zero = refl
sum_on-none first (suc more) = omega (arith, sum_on-none (suc first) more)

sum_on-both : (f g h : ℕ → ℕ) (first more : ℕ) → ((k : ℕ) → f k ≡ g k + h k) → sum_on f first more ≡ sum_on g first more + sum_on h first more
sum_on-both f g h first zero same = refl
sum_on-both f g h first (suc more) same = omega (arith, same first, sum_on-both f g h (suc first) more same)

-- one of them alone
sum_past : (c x first more : ℕ) → c < first → sum_on (λ k. cond (c == k) x 0) first more ≡ 0
sum_past c x first zero past = refl
sum_past c x first (suc more) past =
    let other : cond (c == first) x 0 ≡ 0 = ap (λ b. cond b x 0) (ne_eqb c first (λ same. omega arith)) in
    omega (arith, other, sum_past c x (suc first) more (omega arith))

sum_one : (c x first more : ℕ) → first ≤ c → c < first + more → sum_on (λ k. cond (c == k) x 0) first more ≡ x
sum_one c x first zero from to = absurd (omega arith)
sum_one c x first (suc more) from to = by (cases_eq c first) (λ above. sum_one c x (suc first) more above (omega arith))
  where
    by : (c ≡ first) ⊎ (c ≡ first → ⊥) → (suc first ≤ c → sum_on (λ k. cond (c == k) x 0) (suc first) more ≡ x)
        → sum_on (λ k. cond (c == k) x 0) first (suc more) ≡ x
    by (inl same) rest =
        let this : cond (c == first) x 0 ≡ x = ap (λ b. cond b x 0) (eq-eqb c first same) in
        omega (arith, this, sum_past c x (suc first) more (omega arith))
    by (inr not_same) rest =
        let other : cond (c == first) x 0 ≡ 0 = ap (λ b. cond b x 0) (ne_eqb c first not_same) in
        omega (arith, other, rest (omega arith))

-- the steps of all callers below a number show each place of the entries once
pub callers_counted : (callers p place : ℕ) (xs : List Entry) → All (λ (x : Entry). x.caller < callers) xs
    → sum_on (λ k. times p (positions_of (counts_from k place xs))) 0 callers ≡ once_within p place (place + length xs)
callers_counted callers p place [] each =
    let end : place ≡ place + 0 = omega arith in
    sum_on-none 0 callers ∙ sym (within_none p place) ∙ ap (once_within p place) end
callers_counted callers p place (x ∷ xs) each =
    let this : ℕ = cond (nat_eq p place) 1 0 in
    let rest = callers_counted callers p (suc place) xs (All-tail (λ (e : Entry). e.caller < callers) x xs each) in
    let first : sum_on (λ k. cond (x.caller == k) this 0) 0 callers ≡ this =
    sum_one x.caller this 0 callers (omega arith) (omega (arith, All-head (λ (e : Entry). e.caller < callers) x xs each)) in
    let both =
    sum_on-both (λ k. times p (positions_of (counts_from k place (x ∷ xs)))) (λ k. cond (x.caller == k) this 0)
    (λ k. times p (positions_of (counts_from k (suc place) xs))) 0 callers
    (λ k. times_first p (x.caller == k) (record { position = place; answer = x.answer }) (counts_from k (suc place) xs)) in
    let further : suc place + length xs ≡ place + suc (length xs) = omega arith in
    both ∙ ap₂ (λ m n. m + n) first (rest ∙ ap (once_within p (suc place)) further) ∙ sym (within_more p place (place + suc (length xs)) (omega arith))
