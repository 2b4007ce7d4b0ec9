-- The window rule over a list with one more entry.
use Rattle.std.proofs.Common.{◌≡◌, ℕ, ◌+◌, ◌<◌, max, Bool, true, false, cond, ◌&&◌, ◌==◌, nat_lt, List, [], ◌∷◌, ◌++◌, map, filter, sum_by, fold, length, take, get_or, Option, Some, None, refl, sym, ap, ◌∙◌, append-nil, add-zero}
use Rattle.std.specs.List.{reduce, cons_option, filter_map}
use Rattle.std.proofs.lemmas.List.{map-append, take_more}
use Rattle.std.proofs.lemmas.List.Elements.{filter-append, filter_map-append}
use Rattle.std.proofs.lemmas.List.Sums.{sum_by-append, fold_push}
use Rattle.rate_plain.specs.KeyParts.{KeyParts}
use Rattle.rate_plain.specs.Keys.{same_key, lane_of_key}
use Rattle.rate_plain.specs.Window.{end_of, entries_of, entries_in, latest_of, is_counted, weight_of, counted_of, held_until}
use Rattle.rate_plain.specs.LiveSteps.{end_above, later_of}
use Rattle.rate_plain.specs.declared.entry.Entry.{Entry}
use Rattle.rate_plain.specs.declared.entry.Answer.{Answer}
use Rattle.rate_plain.specs.declared.entry.Answer.TheVariants.{Pass, Over, Full}

-- what counts with one more entry
pub counted_push : (key : KeyParts) (at : ℕ) (history : List Entry) (entry : Entry) → counted_of key at (history ++ entry ∷ []) ≡ counted_of key at history + cond (same_key key entry.key && is_counted at entry) (weight_of entry) 0
counted_push key at history entry =
    ap (λ es. sum_by weight_of (filter (is_counted at) es)) (filter-append (λ e. same_key key e.key) history (entry ∷ []))
    ∙ by (same_key key entry.key)
  where
    one : (b : Bool) → sum_by weight_of (cond b (entry ∷ []) []) ≡ cond b (weight_of entry) 0
    one true = refl
    one false = refl

    by : (b : Bool) → sum_by weight_of (filter (is_counted at) (entries_of key history ++ cond b (entry ∷ []) [])) ≡ counted_of key at history + cond (b && is_counted at entry) (weight_of entry) 0
    by true =
        ap (λ es. sum_by weight_of es) (filter-append (is_counted at) (entries_of key history) (entry ∷ []))
        ∙ sum_by-append weight_of (filter (is_counted at) (entries_of key history)) (cond (is_counted at entry) (entry ∷ []) [])
        ∙ ap (λ n. counted_of key at history + n) (one (is_counted at entry))
    by false =
        ap (λ es. sum_by weight_of (filter (is_counted at) es)) (append-nil (entries_of key history))
        ∙ sym (add-zero (counted_of key at history))

-- an end so far with what one more entry tells
abbrev pub held_with : Option ℕ → Option ℕ → Option ℕ
held_with so_far None = so_far
held_with so_far (Some end) = Some (later_of so_far end)

reduce_push : (xs : List ℕ) (y : ℕ) → reduce max (xs ++ y ∷ []) ≡ Some (later_of (reduce max xs) y)
reduce_push [] y = refl
reduce_push (x ∷ xs) y = ap Some (fold_push max x xs y)

ends_push : (at : ℕ) (ends : List ℕ) (answer : Answer) → reduce max (ends ++ filter (nat_lt at) (cons_option (end_of answer) [])) ≡ held_with (reduce max ends) (end_above at answer)
ends_push at ends Pass = ap (reduce max) (append-nil ends)
ends_push at ends (Over until) = by (nat_lt at until)
  where
    by : (b : Bool) → reduce max (ends ++ cond b (until ∷ []) []) ≡ held_with (reduce max ends) (cond b (Some until) None)
    by true = reduce_push ends until
    by false = ap (reduce max) (append-nil ends)
ends_push at ends Full = ap (reduce max) (append-nil ends)

-- until when a key is held with one more entry
pub held_push : (key : KeyParts) (at : ℕ) (history : List Entry) (entry : Entry) → held_until key at (history ++ entry ∷ []) ≡ held_with (held_until key at history) (cond (same_key key entry.key) (end_above at entry.answer) None)
held_push key at history entry =
    ap (λ es. reduce max (filter (nat_lt at) (filter_map (λ e. end_of e.answer) es))) (filter-append (λ e. same_key key e.key) history (entry ∷ []))
    ∙ by (same_key key entry.key)
  where
    by : (b : Bool) → reduce max (filter (nat_lt at) (filter_map (λ e. end_of e.answer) (entries_of key history ++ cond b (entry ∷ []) []))) ≡ held_with (held_until key at history) (cond b (end_above at entry.answer) None)
    by true =
        ap (λ ends. reduce max (filter (nat_lt at) ends)) (filter_map-append (λ e. end_of e.answer) (entries_of key history) (entry ∷ []))
        ∙ ap (reduce max) (filter-append (nat_lt at) (filter_map (λ e. end_of e.answer) (entries_of key history)) (cons_option (end_of entry.answer) []))
        ∙ ends_push at (filter (nat_lt at) (filter_map (λ e. end_of e.answer) (entries_of key history))) entry.answer
    by false = ap (λ es. reduce max (filter (nat_lt at) (filter_map (λ e. end_of e.answer) es))) (append-nil (entries_of key history))

-- the latest moment of a lane with one more entry
pub latest_push : (lanes lane asked : ℕ) (history : List Entry) (entry : Entry) → latest_of asked (entries_in lanes lane (history ++ entry ∷ [])) ≡ cond (lane_of_key lanes entry.key == lane) (max (latest_of asked (entries_in lanes lane history)) entry.at) (latest_of asked (entries_in lanes lane history))
latest_push lanes lane asked history entry =
    ap (latest_of asked) (filter-append (λ e. lane_of_key lanes e.key == lane) history (entry ∷ []))
    ∙ by (lane_of_key lanes entry.key == lane)
  where
    by : (b : Bool) → latest_of asked (entries_in lanes lane history ++ cond b (entry ∷ []) []) ≡ cond b (max (latest_of asked (entries_in lanes lane history)) entry.at) (latest_of asked (entries_in lanes lane history))
    by true =
        ap (fold max asked) (map-append (λ e. e.at) (entries_in lanes lane history) (entry ∷ []))
        ∙ fold_push max asked (map (λ e. e.at) (entries_in lanes lane history)) entry.at
    by false = ap (latest_of asked) (append-nil (entries_in lanes lane history))

-- the same at the next place of a list
pub counted_more : (key : KeyParts) (at : ℕ) (history : List Entry) (i : ℕ) (entry : Entry) → i < length history → entry ≡ get_or history i entry → counted_of key at (take (i + 1) history) ≡ counted_of key at (take i history) + cond (same_key key entry.key && is_counted at entry) (weight_of entry) 0
counted_more key at history i entry below read =
    ap (counted_of key at) (take_more history i entry below ∙ ap (λ e. take i history ++ e ∷ []) (sym read)) ∙ counted_push key at (take i history) entry

pub held_more : (key : KeyParts) (at : ℕ) (history : List Entry) (i : ℕ) (entry : Entry) → i < length history → entry ≡ get_or history i entry → held_until key at (take (i + 1) history) ≡ held_with (held_until key at (take i history)) (cond (same_key key entry.key) (end_above at entry.answer) None)
held_more key at history i entry below read =
    ap (held_until key at) (take_more history i entry below ∙ ap (λ e. take i history ++ e ∷ []) (sym read)) ∙ held_push key at (take i history) entry
