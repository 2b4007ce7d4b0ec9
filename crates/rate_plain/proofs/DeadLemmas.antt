-- A key that isn't live decides no later answer.
use Rattle.std.proofs.Common.{◌≡◌, ◌⊎◌, inl, inr, map, ℕ, ◌+◌, ◌<◌, ◌≤◌, max, Bool, true, false, cond, not, ◌&&◌, ◌||◌, ◌==◌, nat_lt, nat_le, List, [], ◌∷◌, ◌++◌, filter, sum_by, Option, Some, None, is_some, refl, sym, ap, ◌∙◌, subst, subst₂, append-nil, append_assoc, arith, le_antisymm, lt-ltb}
use Rattle.std.specs.List.{reduce, filter_map}
use Rattle.std.specs.Set.{is_member}
use Rattle.std.proofs.lemmas.Bool.{true≢false, false_from_ne_true, or_parts, cases_lt}
use Rattle.rate_plain.specs.KeyParts.{KeyParts}
use Rattle.rate_plain.specs.Keys.{same_key, lane_of_key}
use Rattle.rate_plain.specs.Window.{end_of, entries_of, entries_in, is_counted, weight_of, counted_of, held_until, is_live, live_count, held_or, answer_at}
use Rattle.rate_plain.specs.LiveSteps.{end_above}
use Rattle.rate_plain.specs.Laws.{without_key}
use Rattle.rate_plain.proofs.KeyLemmas.{same_key-Decides}
use Rattle.rate_plain.proofs.Distinct.{distinct_count-within}
use Rattle.rate_plain.proofs.WindowLemmas.{held_with, counted_push, held_push}
use Rattle.rate_plain.proofs.LiveLemmas.{is_live_any, live_in_lane}
use Rattle.rate_plain.proofs.LaneLemmas.{filter_within}
use Rattle.rate_plain.proofs.BoundLemmas.{is_made_live_earlier}
use Rattle.rate_plain.specs.declared.entry.Ask.{Ask}
use Rattle.rate_plain.specs.declared.entry.Entry.{Entry}
use Rattle.rate_plain.specs.declared.entry.Answer.TheVariants.{Pass, Over, Full}

-- a dead key stays dead
pub dead_later : (key : KeyParts) (sooner at : ℕ) (history : List Entry) → sooner ≤ at → is_live key sooner history ≡ false → is_live key at history ≡ false
dead_later key sooner at history before dead =
    false_from_ne_true (is_live key at history)
    (λ live. true≢false (sym (is_live_any key sooner history ∙ is_made_live_earlier sooner at before key history (sym (is_live_any key at history) ∙ live)) ∙ dead))

-- a dead key isn't held
pub dead_free : (key : KeyParts) (at : ℕ) (history : List Entry) → is_live key at history ≡ false → held_until key at history ≡ None
dead_free key at history dead = by (held_until key at history) (or_parts (nat_lt 0 (counted_of key at history)) (is_some (held_until key at history)) dead).1
  where
    by : (o : Option ℕ) → is_some o ≡ false → o ≡ None
    by None h = refl
    by (Some end) h = absurd (true≢false h)

-- and nothing of it counts
dead_uncounted : (key : KeyParts) (at : ℕ) (history : List Entry) → is_live key at history ≡ false → counted_of key at history ≡ 0
dead_uncounted key at history dead = by (cases_lt 0 (counted_of key at history))
  where
    by : (0 < counted_of key at history) ⊎ (counted_of key at history ≤ 0) → counted_of key at history ≡ 0
    by (inl some) = absurd (true≢false (sym (lt-ltb 0 (counted_of key at history) some) ∙ (or_parts (nat_lt 0 (counted_of key at history)) (is_some (held_until key at history)) dead).0))
    by (inr none) = omega (arith, none)

-- of two lists a key's steps count the same and hold it alike
record IsAlike (key : KeyParts) (at : ℕ) (a b : List Entry) : Type 0 where
  counted : counted_of key at a ≡ counted_of key at b
  held : held_until key at a ≡ held_until key at b

-- so they do with the same steps after them
alike_after : (key : KeyParts) (at : ℕ) (later a b : List Entry) → IsAlike key at a b → IsAlike key at (a ++ later) (b ++ later)
alike_after key at [] a b same = subst₂ (IsAlike key at) (sym (append-nil a)) (sym (append-nil b)) same
alike_after key at (e ∷ es) a b same =
    subst₂ (IsAlike key at) (append_assoc a (e ∷ []) es) (append_assoc b (e ∷ []) es)
    (alike_after key at es (a ++ e ∷ []) (b ++ e ∷ []) (record {
      counted = counted_push key at a e ∙ ap (λ n. n + cond (same_key key e.key && is_counted at e) (weight_of e) 0) same.counted ∙ sym (counted_push key at b e);
      held = held_push key at a e ∙ ap (λ o. held_with o (cond (same_key key e.key) (end_above at e.answer) None)) same.held ∙ sym (held_push key at b e);
    }))

none_left : {X : Type 0} (p : X → Bool) (xs : List X) → filter p (filter (λ x. not (p x)) xs) ≡ []
none_left p [] = refl
none_left p (x ∷ xs) = by (p x) refl (none_left p xs)
  where
    by : (b : Bool) → p x ≡ b → filter p (filter (λ x. not (p x)) xs) ≡ [] → filter p (cond (not b) (x ∷ filter (λ x. not (p x)) xs) (filter (λ x. not (p x)) xs)) ≡ []
    by true is rest = rest
    by false is rest = ap (λ b. cond b (x ∷ filter p (filter (λ x. not (p x)) xs)) (filter p (filter (λ x. not (p x)) xs))) is ∙ rest

-- each key's steps count the same without those of a dead key
dropped_alike : (key : KeyParts) (at : ℕ) (history : List Entry) → is_live key at history ≡ false → (q : KeyParts) → IsAlike q at (without_key key history) history
dropped_alike key at history dead q = by (same_key key q) refl
  where
    by : (b : Bool) → same_key key q ≡ b → IsAlike q at (without_key key history) history
    by true same =
        let none : entries_of key (without_key key history) ≡ [] = none_left (λ e. same_key key e.key) history in
        subst (λ k. IsAlike k at (without_key key history) history) ((same_key-Decides key q).0 same) (record {
          counted = ap (λ es. sum_by weight_of (filter (is_counted at) es)) none ∙ sym (dead_uncounted key at history dead);
          held = ap (λ es. reduce max (filter (nat_lt at) (filter_map (λ e. end_of e.answer) es))) none ∙ sym (dead_free key at history dead);
        })
    by false other =
        let rest : entries_of q (without_key key history) ≡ entries_of q history =
        filter_within (λ e. same_key q e.key) (λ e. not (same_key key e.key)) (λ e own. ap not (ap (same_key key) (sym ((same_key-Decides q e.key).0 own)) ∙ other)) history in
        record {
          counted = ap (λ es. sum_by weight_of (filter (is_counted at) es)) rest;
          held = ap (λ es. reduce max (filter (nat_lt at) (filter_map (λ e. end_of e.answer) es))) rest;
        }

live_alike : (key : KeyParts) (at : ℕ) (a b : List Entry) → IsAlike key at a b → is_live key at a ≡ is_live key at b
live_alike key at a b same = λ i. nat_lt 0 (same.counted i) || is_some (same.held i)

-- as many keys are live
live_count_alike : (lanes lane at : ℕ) (a b : List Entry) → ((key : KeyParts) → IsAlike key at a b) → live_count lanes lane at a ≡ live_count lanes lane at b
live_count_alike lanes lane at a b same =
    le_antisymm
    (distinct_count-within (keys a) (keys b) (λ q m. sym (members q) ∙ m))
    (distinct_count-within (keys b) (keys a) (λ q m. members q ∙ m))
  where
    keys : List Entry → List KeyParts
    keys history = filter (λ key. is_live key at history) (map (λ entry. entry.key) (entries_in lanes lane history))

    members : (q : KeyParts) → is_member same_key (keys a) q ≡ is_member same_key (keys b) q
    members q =
        live_in_lane lanes lane at a q
        ∙ ap (λ alive. (lane_of_key lanes q == lane) && alive) (sym (is_live_any q at a) ∙ live_alike q at a b (same q) ∙ is_live_any q at b)
        ∙ sym (live_in_lane lanes lane at b q)

-- and an ask is answered the same
answer_alike : (lanes cap : ℕ) (a b : List Entry) (ask : Ask) (at : ℕ) → ((key : KeyParts) → IsAlike key at a b) → answer_at lanes cap a ask at ≡ answer_at lanes cap b ask at
answer_alike lanes cap a b ask at same =
    let own = same ask.key in
    let live = live_alike ask.key at a b own in
    let count = live_count_alike lanes (lane_of_key lanes ask.key) at a b same in
    λ i. held_or (own.held i)
    (cond (not ask.adds) Pass
    (cond (not (live i) && nat_le cap (count i)) Full
    (cond (own.counted i == ask.key.threshold) (Over (at + ask.key.timeout))
    Pass)))

-- a dead key's steps can be left out
pub dead_decides_nothing : (lanes cap : ℕ) (history later : List Entry) (key : KeyParts) (sooner at : ℕ) (ask : Ask) → is_live key sooner history ≡ false → sooner ≤ at → answer_at lanes cap (without_key key history ++ later) ask at ≡ answer_at lanes cap (history ++ later) ask at
dead_decides_nothing lanes cap history later key sooner at ask dead before =
    let gone = dead_later key sooner at history before dead in
    answer_alike lanes cap (without_key key history ++ later) (history ++ later) ask at
    (λ q. alike_after q at later (without_key key history) history (dropped_alike key at history gone q))
