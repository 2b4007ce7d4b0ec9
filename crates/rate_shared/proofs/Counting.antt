-- How many entries a history has, by callers, and what one more entry changes.
use Rattle.std.proofs.Common.{◌≡◌, ◌≢◌, ◌⊎◌, ℕ, zero, suc, ◌+◌, ◌*◌, ◌^◌, ◌<◌, ◌≤◌, cond, ◌==◌, true, false, Bool, List, [], ◌∷◌, ◌++◌, All, filter, length, refl, sym, ap, ◌∙◌, subst, inl, inr, append-nil, eq-eqb, ne_eqb, mul-le-mul_right, suc-mul, length-append, arith}
use mathlib.Core.Logic.{dite}
use native.Mathlib.Decide.{ℕ_discrete, dec_le}
use Rattle.std.proofs.lemmas.List.{length_push}
use Rattle.std.proofs.lemmas.List.Elements.{All-head, All-tail, filter-append}
use Rattle.rate_plain.specs.Keys.{lane_of_key}
use Rattle.rate_plain.specs.Window.{entries_in}
use Rattle.rate_plain.specs.History.{own_of}
use Rattle.rate_plain.specs.declared.entry.Entry.{Entry}

-- the entry is the caller's own, or it isn't
pub own_with : (history : List Entry) (entry : Entry) (k : ℕ) → entry.caller ≡ k → own_of (history ++ entry ∷ []) k ≡ own_of history k ++ entry ∷ []
own_with history entry k is =
    filter-append (λ e. e.caller == k) history (entry ∷ [])
    ∙ ap (λ b. own_of history k ++ cond b (entry ∷ []) []) (eq-eqb entry.caller k is)

pub own_without : (history : List Entry) (entry : Entry) (k : ℕ) → entry.caller ≢ k → own_of (history ++ entry ∷ []) k ≡ own_of history k
own_without history entry k other =
    filter-append (λ e. e.caller == k) history (entry ∷ [])
    ∙ ap (λ b. own_of history k ++ cond b (entry ∷ []) []) (ne_eqb entry.caller k other)
    ∙ append-nil (own_of history k)

-- the entry is of the lane, or it isn't
pub lane_with : (lanes lane : ℕ) (history : List Entry) (entry : Entry) → lane_of_key lanes entry.key ≡ lane → entries_in lanes lane (history ++ entry ∷ []) ≡ entries_in lanes lane history ++ entry ∷ []
lane_with lanes lane history entry is =
    filter-append (λ e. lane_of_key lanes e.key == lane) history (entry ∷ [])
    ∙ ap (λ b. entries_in lanes lane history ++ cond b (entry ∷ []) []) (eq-eqb (lane_of_key lanes entry.key) lane is)

pub lane_without : (lanes lane : ℕ) (history : List Entry) (entry : Entry) → lane_of_key lanes entry.key ≢ lane → entries_in lanes lane (history ++ entry ∷ []) ≡ entries_in lanes lane history
lane_without lanes lane history entry other =
    filter-append (λ e. lane_of_key lanes e.key == lane) history (entry ∷ [])
    ∙ ap (λ b. entries_in lanes lane history ++ cond b (entry ∷ []) []) (ne_eqb (lane_of_key lanes entry.key) lane other)
    ∙ append-nil (entries_in lanes lane history)

-- the entries of the callers below n, summed by callers
abbrev pub own_sum : ℕ → List Entry → ℕ
own_sum zero history = 0
own_sum (suc n) history = own_sum n history + length (own_of history n)

own_sum-none : (n : ℕ) → own_sum n [] ≡ 0
own_sum-none zero = refl
own_sum-none (suc n) = omega (arith, own_sum-none n)

-- an entry of a caller from n on counts for nothing, and one of a caller below n for one
own_sum-above : (n : ℕ) (entry : Entry) (history : List Entry) → n ≤ entry.caller → own_sum n (entry ∷ history) ≡ own_sum n history
own_sum-above zero entry history above = refl
own_sum-above (suc n) entry history above =
    let other : entry.caller ≢ n = λ e. omega arith in
    let last : length (own_of (entry ∷ history) n) ≡ length (own_of history n) = ap (λ b. length (cond b (entry ∷ own_of history n) (own_of history n))) (ne_eqb entry.caller n other) in
    omega (arith, last, own_sum-above n entry history (omega arith))

own_sum-below : (n : ℕ) (entry : Entry) (history : List Entry) → entry.caller < n → own_sum n (entry ∷ history) ≡ own_sum n history + 1
own_sum-below zero entry history below = absurd (omega arith)
own_sum-below (suc n) entry history below = dite (ℕ_discrete entry.caller n)
    (λ same.
    let last : length (own_of (entry ∷ history) n) ≡ length (own_of history n) + 1 = ap (λ b. length (cond b (entry ∷ own_of history n) (own_of history n))) (eq-eqb entry.caller n same) ∙ omega arith in
    omega (arith, last, own_sum-above n entry history (omega arith)))
    (λ other.
    let last : length (own_of (entry ∷ history) n) ≡ length (own_of history n) = ap (λ b. length (cond b (entry ∷ own_of history n) (own_of history n))) (ne_eqb entry.caller n other) in
    omega (arith, last, own_sum-below n entry history (omega arith)))

-- each entry is counted once, at its caller
pub length-own_sum : (n : ℕ) (history : List Entry) → All (λ entry. entry.caller < n) history → own_sum n history ≡ length history
length-own_sum n [] all = own_sum-none n
length-own_sum n (entry ∷ history) all =
    let tail = length-own_sum n history (All-tail (λ (e : Entry). e.caller < n) entry history all) in
    let head = own_sum-below n entry history (All-head (λ (e : Entry). e.caller < n) entry history all) in
    omega (arith, head, tail)

own_sum-most : (n most : ℕ) (history : List Entry) → ((k : ℕ) → length (own_of history k) ≤ most) → own_sum n history ≤ n * most
own_sum-most zero most history each = omega arith
own_sum-most (suc n) most history each = omega (arith, suc-mul n most, own_sum-most n most history each, each n)

-- a history of at most 1,024 callers, each with at most 2^40 entries
pub history_fits : (callers : ℕ) (history : List Entry) → callers ≤ 1024 → All (λ entry. entry.caller < callers) history → ((k : ℕ) → length (own_of history k) ≤ 2 ^ 40) → length history ≤ 2 ^ 50
history_fits callers history few all each =
    let most : own_sum callers history ≤ callers * 1099511627776 = own_sum-most callers 1099511627776 history each in
    let within : callers * 1099511627776 ≤ 1024 * 1099511627776 = mul-le-mul_right 1099511627776 few in
    omega (arith, length-own_sum callers history all, most, within)
