-- When all callers have come back: one of them has seen the whole history.
use Rattle.std.proofs.Common.{◌≡◌, ◌≢◌, ◌⊎◌, ℕ, zero, suc, ◌+◌, ◌<◌, ◌≤◌, Bool, true, false, cond, ◌||◌, ◌==◌, List, [], ◌∷◌, ◌++◌, All, Any, length, get_or, slice_index, slice_index_or, sum_by, refl, sym, ap, ◌∙◌, subst, inl, inr, ⊎_elim, append_assoc, append-nil, eqb-true, true≢false, length-append, set, take, get_or-set_same, get_or-set_other, arith}
use mathlib.Core.Logic.{dite}
use native.Mathlib.Decide.{ℕ_discrete}
use mathlib.Core.List.{IsPrefix}
use Rattle.std.proofs.lemmas.List.{length_push, get_or_push, get_or_append_left}
use Rattle.std.proofs.lemmas.List.Elements.{filter-append}
use Rattle.std.proofs.lemmas.List.Sums.{sum_by-append}
use Rattle.rate_plain.specs.History.{own_of}
use Rattle.rate_plain.specs.declared.entry.Entry.{Entry}
use Rattle.rate_shared.specs.declared.rule.Shape.{Shape}
use Rattle.rate_shared.specs.declared.seen.Seen.{Seen}
use Rattle.rate_shared.specs.declared.closing.Totals.{Totals}
use Rattle.rate_shared.specs.Callers.{history_of}
use Rattle.rate_shared.specs.Close.{has_caller, AreAll, HasTaken, StandsIn, Gathers, Closes}
use Rattle.rate_shared.proofs.Counting.{own_sum, own_with, length-own_sum}

-- a list is empty, or has a last element
by_last : {X : Type 0} (xs : List X) → (xs ≡ []) ⊎ ((ys : List X) × (y : X) × (xs ≡ ys ++ y ∷ []))
by_last [] = inl refl
by_last (x ∷ xs) = ⊎_elim (λ e. inr ([], x, ap (λ r. x ∷ r) e)) (λ t. inr (x ∷ t.0, t.1, ap (λ r. x ∷ r) t.2)) (by_last xs)

same_last : (xs ys : List Entry) (x y : Entry) → xs ++ x ∷ [] ≡ ys ++ y ∷ [] → x ≡ y
same_last xs ys x y same =
    let long : length ys ≡ length xs = omega (arith, length_push xs x, length_push ys y, ap length same) in
    sym (get_or_push xs x x (length xs) refl) ∙ ap (λ l. get_or l (length xs) x) same ∙ get_or_push ys y x (length xs) long

-- a caller among them is one of them
has_any : (k : ℕ) (seens : List Seen) → has_caller k seens ≡ true → (i : ℕ) × (seen : Seen) × (i < length seens) × (slice_index_or seens i seen ≡ seen) × (seen.caller ≡ k)
has_any k [] has = absurd (true≢false (sym has))
has_any k (seen ∷ seens) has = by (seen.caller == k) refl has (has_any k seens)
  where
    by : (b : Bool) → (seen.caller == k) ≡ b → (b || has_caller k seens) ≡ true
        → (has_caller k seens ≡ true → (i : ℕ) × (s : Seen) × (i < length seens) × (slice_index_or seens i s ≡ s) × (s.caller ≡ k))
        → (i : ℕ) × (s : Seen) × (i < length (seen ∷ seens)) × (slice_index_or (seen ∷ seens) i s ≡ s) × (s.caller ≡ k)
    by true is _ more = (0, seen, omega arith, refl, eqb-true seen.caller k is)
    by false is rest more = let t = more rest in (suc t.0, t.1, omega (arith, t.2), t.3, t.4)

longer : (a b : List Entry) (x : Entry) → a ≡ a ++ (b ++ x ∷ []) → ⊥
longer a b x e = omega (arith, ap length e, length-append a (b ++ x ∷ []), length_push b x)

no_rest : (a b : List Entry) → a ++ b ≡ [] → a ≡ []
no_rest [] b e = refl
no_rest (x ∷ a) b e = absurd (omega (arith, ap length e))

-- the caller of the last entry has seen it, and so all
sees_last : (history : List Entry) (init : List Entry) (entry : Entry) (seen : Seen) → history ≡ init ++ entry ∷ [] → seen.caller ≡ entry.caller → StandsIn history seen → history_of seen ≡ history
sees_last history init entry seen last its stands = by (by_last rest)
  where
    s : List Entry
    s = history_of seen

    rest : List Entry
    rest = stands.begins.0

    by : (rest ≡ []) ⊎ ((ys : List Entry) × (y : Entry) × (rest ≡ ys ++ y ∷ [])) → s ≡ history
    by (inl none) = sym (append-nil s) ∙ ap (λ r. s ++ r) (sym none) ∙ stands.begins.1
    by (inr t) =
        let whole : (s ++ t.0) ++ t.1 ∷ [] ≡ init ++ entry ∷ [] = append_assoc s t.0 (t.1 ∷ []) ∙ ap (λ r. s ++ r) (sym t.2) ∙ stands.begins.1 ∙ last in
        let same : t.1 ≡ entry = same_last (s ++ t.0) init t.1 entry whole in
        let cut : own_of history seen.caller ≡ own_of s seen.caller ++ own_of rest seen.caller = ap (λ h. own_of h seen.caller) (sym stands.begins.1) ∙ filter-append (λ e. e.caller == seen.caller) s rest in
        let tail : own_of rest seen.caller ≡ own_of t.0 seen.caller ++ t.1 ∷ [] = ap (λ h. own_of h seen.caller) t.2 ∙ own_with t.0 t.1 seen.caller (ap (λ (e : Entry). e.caller) same ∙ sym its) in
        absurd (longer (own_of s seen.caller) (own_of t.0 seen.caller) t.1 (sym stands.own ∙ cut ∙ ap (λ r. own_of s seen.caller ++ r) tail))

sum_own : (own : List ℕ) (n : ℕ) (history : List Entry) → length own ≡ n → ((k : ℕ) → k < n → get_or own k 0 ≡ length (own_of history k)) → sum_by (λ (m : ℕ). m) own ≡ own_sum n history
sum_own own zero history long each = ⊎_elim (λ e. ap (sum_by (λ (m : ℕ). m)) e) (λ t. absurd (omega (arith, long, ap length t.2, length_push t.0 t.1))) (by_last own)
sum_own own (suc n) history long each = by (by_last own) (λ ys. sum_own ys n history)
  where
    by : (own ≡ []) ⊎ ((ys : List ℕ) × (y : ℕ) × (own ≡ ys ++ y ∷ []))
        → ((ys : List ℕ) → length ys ≡ n → ((k : ℕ) → k < n → get_or ys k 0 ≡ length (own_of history k)) → sum_by (λ (m : ℕ). m) ys ≡ own_sum n history)
        → sum_by (λ (m : ℕ). m) own ≡ own_sum (suc n) history
    by (inl none) less = absurd (omega (arith, long, ap length none))
    by (inr t) less =
        let short : length t.0 ≡ n = omega (arith, long, ap length t.2, length_push t.0 t.1) in
        let last : t.1 ≡ length (own_of history n) = sym (get_or_push t.0 t.1 0 n short) ∙ ap (λ l. get_or l n 0) (sym t.2) ∙ each n (omega arith) in
        let before : sum_by (λ (m : ℕ). m) t.0 ≡ own_sum n history = less t.0 short (λ k below. sym (get_or_append_left t.0 (t.1 ∷ []) 0 k (omega (arith, short))) ∙ ap (λ l. get_or l k 0) (sym t.2) ∙ each k (omega arith)) in
        omega (arith, ap (sum_by (λ (m : ℕ). m)) t.2, sum_by-append (λ (m : ℕ). m) t.0 (t.1 ∷ []), last, before)

pub closes : (shape : Shape) (seens : List Seen) (totals : Totals) → Gathers shape seens totals.history → 1 ≤ shape.callers → AreAll shape.callers seens → length totals.own ≡ shape.callers
    → HasTaken totals.own seens seens → Closes shape seens totals
closes shape seens totals g some all count own = record {
  longest = g.history;
  one = by (by_last g.history);
  each = g.each;
  legal = g.legal;
  history = sym g.long;
  count = count;
  own = its;
  sum = sum_own totals.own shape.callers g.history count its ∙ length-own_sum shape.callers g.history g.by_callers ∙ g.long;
}
  where
    its : (k : ℕ) → k < shape.callers → slice_index totals.own k ≡ length (own_of g.history k)
    its k below =
        own (λ n. length (own_of g.history n))
        (λ i d near. let seen = slice_index_or seens i d in seen.ready.its ∙ ap length (sym (g.each i d near).own)) k (all k below)

    whole : (i : ℕ) (seen : Seen) → i < length seens → slice_index_or seens i seen ≡ seen → history_of seen ≡ g.history → Any (λ seen. history_of seen ≡ g.history) seens
    whole i seen near there is = (i, seen, near, there, is)

    by : (g.history ≡ []) ⊎ ((ys : List Entry) × (y : Entry) × (g.history ≡ ys ++ y ∷ [])) → Any (λ seen. history_of seen ≡ g.history) seens
    by (inl none) =
        let t = has_any 0 seens (all 0 (omega arith)) in
        let stands : StandsIn g.history t.1 = subst (StandsIn g.history) t.3 (g.each t.0 t.1 t.2) in
        whole t.0 t.1 t.2 t.3 (no_rest (history_of t.1) stands.begins.0 (stands.begins.1 ∙ none) ∙ sym none)
    by (inr l) =
        let below = g.by_callers (length l.0) l.1 (omega (arith, ap length l.2, length_push l.0 l.1)) in
        let is : slice_index_or g.history (length l.0) l.1 ≡ l.1 = ap (λ h. get_or h (length l.0) l.1) l.2 ∙ get_or_push l.0 l.1 l.1 (length l.0) refl in
        let t = has_any l.1.caller seens (all l.1.caller (subst (λ (e : Entry). e.caller < shape.callers) is below)) in
        whole t.0 t.1 t.2 t.3 (sees_last g.history l.0 l.1 t.1 l.2 t.4 (subst (StandsIn g.history) t.3 (g.each t.0 t.1 t.2)))

-- a caller among more is the last or among those before
has_more : (k i : ℕ) (seens : List Seen) (d : Seen) → i < length seens → has_caller k (take (suc i) seens) ≡ true → ((slice_index_or seens i d).caller ≡ k) ⊎ (has_caller k (take i seens) ≡ true)
has_more k zero [] d near has = absurd (omega (arith, near))
has_more k (suc i) [] d near has = absurd (omega (arith, near))
has_more k zero (seen ∷ seens) d near has = by (seen.caller == k) refl has
  where
    by : (b : Bool) → (seen.caller == k) ≡ b → (b || false) ≡ true → (seen.caller ≡ k) ⊎ (false ≡ true)
    by true is _ = inl (eqb-true seen.caller k is)
    by false is rest = inr rest
has_more k (suc i) (seen ∷ seens) d near has = by (seen.caller == k) has (has_more k i seens d (omega arith))
  where
    by : (b : Bool) → (b || has_caller k (take (suc i) seens)) ≡ true
        → (has_caller k (take (suc i) seens) ≡ true → ((slice_index_or seens i d).caller ≡ k) ⊎ (has_caller k (take i seens) ≡ true))
        → ((slice_index_or seens i d).caller ≡ k) ⊎ ((b || has_caller k (take i seens)) ≡ true)
    by true _ more = inr refl
    by false rest more = more rest

-- a caller's number is written, over those before
pub writes_own : (own : List ℕ) (seens : List Seen) (i : ℕ) (seen : Seen) (f : ℕ → ℕ) → i < length seens → slice_index_or seens i seen ≡ seen → seen.caller < length own → seen.taken ≡ f seen.caller
    → ((k : ℕ) → has_caller k (take i seens) ≡ true → get_or own k 0 ≡ f k) → (k : ℕ) → has_caller k (take (i + 1) seens) ≡ true → get_or (set own seen.caller seen.taken) k 0 ≡ f k
writes_own own seens i seen f near there within its before k has = dite (ℕ_discrete k seen.caller)
    (λ same. ap (λ n. get_or (set own seen.caller seen.taken) n 0) same ∙ get_or-set_same own seen.caller seen.taken 0 within ∙ its ∙ ap f (sym same))
    (λ other. get_or-set_other own seen.caller k seen.taken 0 other
    ∙ ⊎_elim (λ e. absurd (other (sym e ∙ ap (λ (s : Seen). s.caller) there))) (λ h. before k h) (has_more k i seens seen near (ap (λ (n : ℕ). has_caller k (take n seens)) plus ∙ has)))
  where
    plus : suc i ≡ i + 1
    plus = omega arith
