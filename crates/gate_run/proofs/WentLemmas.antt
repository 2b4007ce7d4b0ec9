-- What one more step changes: of the steps that a judging asks, and of what is shown.
use Rattle.std.proofs.Common.{◌≡◌, ◌⊎◌, ℕ, zero, suc, ◌+◌, ◌<◌, ◌≤◌, ◌==◌, Bool, true, false, cond, List, [], ◌∷◌, ◌++◌, length, get_or, take, inl, inr, refl, sym, ap, ◌∙◌, subst, subst₂, arith, append-nil, append_assoc, length-append, eq-eqb}
use Rattle.std.proofs.lemmas.Bool.{cases_lt}
use Rattle.std.proofs.lemmas.List.{append_cancel_left, map-append, take_at, take-append-le, get_or_append_left, get_or_push, length_push}
use Rattle.std.proofs.lemmas.List.Elements.{filter-append}
use mathlib.Core.List.{IsPrefix}
use Rattle.rate_plain.specs.History.{own_of, ask_of}
use Rattle.rate_plain.specs.declared.entry.Ask.{Ask}
use Rattle.rate_plain.specs.declared.entry.Answer.{Answer}
use Rattle.rate_plain.specs.declared.entry.Counted.{Counted}
use Rattle.rate_plain.specs.declared.entry.Entry.{Entry}
use Rattle.rate_shared.specs.Promise.{Counts}
use Rattle.rate_shared.specs.declared.rule.Shape.{Shape}
use Rattle.rate_shared.proofs.Counting.{own_with}
use Rattle.gate_run.specs.Promises.{Grew}
use Rattle.gate_run.specs.Went.{answers_of, AreAskedBy, counts_from}

-- ---- the steps that are asked
pub asked-none : (Asks : List Answer → Ask → Type 0) → AreAskedBy Asks []
asked-none Asks k d below = absurd (below_none k below)
  where
    below_none : (k : ℕ) → k < 0 → ⊥
    below_none k h = omega arith

pub asked-more : (Asks : List Answer → Ask → Type 0) (own : List Entry) (entry : Entry) → AreAskedBy Asks own
    → Asks (answers_of own) (ask_of entry) → AreAskedBy Asks (own ++ entry ∷ [])
asked-more Asks own entry asked asks k d below = by (cases_lt k (length own))
  where
    by : (k < length own) ⊎ (length own ≤ k) → Asks (answers_of (take k (own ++ entry ∷ []))) (ask_of (get_or (own ++ entry ∷ []) k d))
    by (inl earlier) =
        subst₂ (λ (xs : List Entry) (e : Entry). Asks (answers_of xs) (ask_of e)) (sym (take-append-le k own (entry ∷ []) (omega arith)))
        (sym (get_or_append_left own (entry ∷ []) d k earlier)) (asked k d earlier)
    by (inr late) =
        let last : length own ≡ k = omega (arith, length_push own entry) in
        subst₂ (λ (xs : List Entry) (e : Entry). Asks (answers_of xs) (ask_of e)) (sym (take_at own (entry ∷ []) k last)) (sym (get_or_push own entry d k last)) asks

pub answers-more : (own : List Entry) (entry : Entry) → answers_of (own ++ entry ∷ []) ≡ answers_of own ++ entry.answer ∷ []
answers-more own entry = map-append (λ (e : Entry). e.answer) own (entry ∷ [])

-- ---- what is shown
joined : (test : Bool) (shown : Counted) (all some more : List Counted) → all ≡ some ++ more
    → cond test (shown ∷ all) all ≡ cond test (shown ∷ some) some ++ more
joined true shown all some more same = ap (λ cs. shown ∷ cs) same
joined false shown all some more same = same

counts_from-append : (caller place : ℕ) (xs ys : List Entry)
    → counts_from caller place (xs ++ ys) ≡ counts_from caller place xs ++ counts_from caller (place + length xs) ys
counts_from-append caller place [] ys = let here : place ≡ place + 0 = omega arith in ap (λ n. counts_from caller n ys) here
counts_from-append caller place (x ∷ xs) ys =
    let further : suc place + length xs ≡ place + suc (length xs) = omega arith in
    joined (x.caller == caller) (record { position = place; answer = x.answer }) (counts_from caller (suc place) (xs ++ ys))
    (counts_from caller (suc place) xs) (counts_from caller (place + suc (length xs)) ys)
    (counts_from-append caller (suc place) xs ys ∙ ap (λ n. counts_from caller (suc place) xs ++ counts_from caller n ys) further)

left_out : (test : Bool) (entry : Entry) (shown : Counted) (own : List Entry) (all : List Counted) → cond test (entry ∷ own) own ≡ []
    → (own ≡ [] → all ≡ []) → cond test (shown ∷ all) all ≡ []
left_out true entry shown own all none rest = let some : entry ∷ own ≡ [] = none in absurd (cc)
left_out false entry shown own all none rest = rest none

counts_from-none : (caller place : ℕ) (xs : List Entry) → own_of xs caller ≡ [] → counts_from caller place xs ≡ []
counts_from-none caller place [] none = refl
counts_from-none caller place (x ∷ xs) none =
    left_out (x.caller == caller) x (record { position = place; answer = x.answer }) (own_of xs caller) (counts_from caller (suc place) xs) none
    (counts_from-none caller (suc place) xs)

-- a step that was taken after these: the caller's one further entry, behind others'
module _ (shape : Shape) (caller : ℕ) (before now new after : List Entry) (ask : Ask) (counted : Counted)
    (grew : Grew shape before now new) (counts : Counts shape caller now after ask counted) where
  abbrev between : List Entry
  between = counts.seen.0

  abbrev pub further : List Entry
  further = new ++ (between ++ counts.entry ∷ [])

  others : own_of between caller ≡ []
  others =
      append_cancel_left (own_of now caller) (own_of between caller) []
      (sym (filter-append (λ (e : Entry). e.caller == caller) now between)
      ∙ ap (λ h. own_of h caller) counts.seen.1 ∙ counts.own ∙ sym (append-nil (own_of now caller)))

  pub grown : after ≡ before ++ further
  grown =
      counts.grown ∙ ap (λ h. h ++ counts.entry ∷ []) (sym counts.seen.1) ∙ append_assoc now between (counts.entry ∷ [])
      ∙ ap (λ h. h ++ (between ++ counts.entry ∷ [])) grew.grown ∙ append_assoc before new (between ++ counts.entry ∷ [])

  pub grew_on : Grew shape before after further
  grew_on = record { grown = grown; legal = counts.legal }

  pub own_on : own_of further caller ≡ own_of new caller ++ counts.entry ∷ []
  own_on =
      filter-append (λ (e : Entry). e.caller == caller) new (between ++ counts.entry ∷ [])
      ∙ ap (λ es. own_of new caller ++ es) (own_with between counts.entry caller counts.its ∙ ap (λ es. es ++ counts.entry ∷ []) others)

  abbrev last_place : ℕ
  last_place = (length before + length new) + length between

  long : length (before ++ further) ≡ last_place + 1
  long = omega (arith, length-append before further, length-append new (between ++ counts.entry ∷ []), length_push between counts.entry)

  at_last : last_place ≡ counted.position
  at_last = let whole = ap length grown in omega (arith, counts.position, whole, long)

  last_shown : counts_from caller last_place (counts.entry ∷ []) ≡ counted ∷ []
  last_shown =
      ap (λ b. cond b (record { position = last_place; answer = counts.entry.answer } ∷ []) []) (eq-eqb counts.entry.caller caller counts.its)
      ∙ (λ i. record { position = at_last i; answer = counts.answer i } ∷ [])

  pub shown_on : counts_from caller (length before) further ≡ counts_from caller (length before) new ++ counted ∷ []
  shown_on =
      counts_from-append caller (length before) new (between ++ counts.entry ∷ [])
      ∙ ap (λ cs. counts_from caller (length before) new ++ cs)
      (counts_from-append caller (length before + length new) between (counts.entry ∷ [])
      ∙ ap (λ cs. cs ++ counts_from caller last_place (counts.entry ∷ [])) (counts_from-none caller (length before + length new) between others)
      ∙ last_shown)

-- it is one own entry more
pub own_grown : (shape : Shape) (caller : ℕ) (before after : List Entry) (ask : Ask) (counted : Counted) → Counts shape caller before after ask counted
    → length (own_of after caller) ≡ length (own_of before caller) + 1
own_grown shape caller before after ask counted counts =
    let own = ap (λ h. length (own_of h caller)) counts.grown in
    let last = ap length (own_with counts.between counts.entry caller counts.its) in
    omega (arith, own, last, length_push (own_of counts.between caller) counts.entry, ap length counts.own)
