-- A key is live exactly if one of its steps makes it so, and a lane's live keys are those of such steps.
use Rattle.std.proofs.Common.{inl, inr, ◌≡◌, ℕ, ◌+◌, ◌<◌, ◌≤◌, max, Bool, true, false, cond, not, ◌&&◌, ◌||◌, ◌==◌, nat_lt, List, [], ◌∷◌, length, map, filter, sum_by, Some, None, is_some, refl, sym, ap, ◌∙◌, le_antisymm, zero-add, arith, lt-ltb}
use Rattle.std.specs.List.{reduce, cons_option, filter_map, list_any, count_by}
use Rattle.std.specs.Set.{is_member, unique_keys}
use Rattle.std.proofs.lemmas.Bool.{and_right, or_left, or_right, or_cases, and_parts, true≢false}
use Rattle.std.proofs.lemmas.List.{length-map}
use Rattle.std.proofs.lemmas.List.Sums.{sum_by-cons, length-filter}
use Rattle.std.proofs.lemmas.Map.Made.{is_member-filter, alike_from_same, distinct_count-le}
use Rattle.rate_plain.specs.KeyParts.{KeyParts}
use Rattle.rate_plain.specs.Keys.{same_key, lane_of_key}
use Rattle.rate_plain.specs.Window.{end_of, entries_of, entries_in, is_counted, weight_of, counted_of, is_live, live_count}
use Rattle.rate_plain.specs.LiveSteps.{end_above, makes_live, is_made_live, makes_live_in, made_live_count}
use Rattle.rate_plain.proofs.KeyLemmas.{same_key-equiv, same_key-Decides, same_lane}
use Rattle.rate_plain.proofs.Distinct.{distinct_count-within}
use Rattle.rate_plain.specs.declared.entry.Entry.{Entry}
use Rattle.rate_plain.specs.declared.entry.Answer.{Answer}
use Rattle.rate_plain.specs.declared.entry.Answer.TheVariants.{Pass, Over, Full}

-- with one more entry at the front
is_live_cons : (key : KeyParts) (at : ℕ) (entry : Entry) (rest : List Entry) → is_live key at (entry ∷ rest) ≡ ((makes_live at entry && same_key key entry.key) || is_live key at rest)
is_live_cons key at entry rest = by (same_key key entry.key)
  where
    told : (t : Bool) (until : ℕ) (ends : List ℕ) (counts : Bool) → (counts || is_some (reduce max (cond t (until ∷ ends) ends))) ≡ ((is_some (cond t (Some until) None) && true) || (counts || is_some (reduce max ends)))
    told true until ends counts = or_right counts true refl
    told false until ends counts = refl

    alive : (b : Bool) (a : Answer) → (nat_lt 0 (sum_by weight_of (cond b (entry ∷ filter (is_counted at) (entries_of key rest)) (filter (is_counted at) (entries_of key rest)))) || is_some (reduce max (filter (nat_lt at) (cons_option (end_of a) (filter_map (λ e. end_of e.answer) (entries_of key rest)))))) ≡ (((b || is_some (end_above at a)) && true) || is_live key at rest)
    alive true a =
        let more : 0 < sum_by weight_of (entry ∷ filter (is_counted at) (entries_of key rest)) = omega (arith, sum_by-cons weight_of entry (filter (is_counted at) (entries_of key rest))) in
        or_left _ _ (lt-ltb 0 _ more)
    alive false Pass = refl
    alive false (Over until) = told (nat_lt at until) until (filter (nat_lt at) (filter_map (λ e. end_of e.answer) (entries_of key rest))) (nat_lt 0 (counted_of key at rest))
    alive false Full = refl

    by : (s : Bool) → (nat_lt 0 (sum_by weight_of (filter (is_counted at) (cond s (entry ∷ entries_of key rest) (entries_of key rest)))) || is_some (reduce max (filter (nat_lt at) (filter_map (λ e. end_of e.answer) (cond s (entry ∷ entries_of key rest) (entries_of key rest)))))) ≡ ((makes_live at entry && s) || is_live key at rest)
    by true = alive (is_counted at entry) entry.answer
    by false = ap (λ b. b || is_live key at rest) (sym (and_right (makes_live at entry) false refl))

-- a key is live exactly if one of its steps makes it so
pub is_live_any : (key : KeyParts) (at : ℕ) (history : List Entry) → is_live key at history ≡ is_made_live key at history
is_live_any key at [] = refl
is_live_any key at (entry ∷ rest) = is_live_cons key at entry rest ∙ ap (λ b. (makes_live at entry && same_key key entry.key) || b) (is_live_any key at rest)

-- a key among those of some entries
any_key : (p : Entry → Bool) (q : KeyParts) (history : List Entry) → list_any (same_key q) (map (λ e. e.key) (filter p history)) ≡ list_any (λ e. p e && same_key q e.key) history
any_key p q [] = refl
any_key p q (entry ∷ rest) = by (p entry) (any_key p q rest)
  where
    by : (b : Bool) → list_any (same_key q) (map (λ e. e.key) (filter p rest)) ≡ list_any (λ e. p e && same_key q e.key) rest → list_any (same_key q) (map (λ e. e.key) (cond b (entry ∷ filter p rest) (filter p rest))) ≡ ((b && same_key q entry.key) || list_any (λ e. p e && same_key q e.key) rest)
    by true r = ap (λ v. same_key q entry.key || v) r
    by false r = r

-- among the entries of a lane, a key of another lane is none of them
any_in_lane : (lanes lane : ℕ) (p : Entry → Bool) (q : KeyParts) (history : List Entry) → list_any (λ e. (p e && lane_of_key lanes e.key == lane) && same_key q e.key) history ≡ ((lane_of_key lanes q == lane) && list_any (λ e. p e && same_key q e.key) history)
any_in_lane lanes lane p q [] = sym (and_right (lane_of_key lanes q == lane) false refl)
any_in_lane lanes lane p q (entry ∷ rest) =
    by (p entry) (same_key q entry.key) (lane_of_key lanes entry.key == lane) (lane_of_key lanes q == lane)
    (λ same. ap (λ n. n == lane) (sym (same_lane lanes q entry.key same))) _ _ (any_in_lane lanes lane p q rest)
  where
    by : (b s in_entry in_q : Bool) → (s ≡ true → in_entry ≡ in_q) → (some all : Bool) → some ≡ (in_q && all) → (((b && in_entry) && s) || some) ≡ (in_q && ((b && s) || all))
    by false s in_entry in_q like some all rest_is = rest_is
    by true false true in_q like some all rest_is = rest_is
    by true false false in_q like some all rest_is = rest_is
    by true true true true like some all rest_is = refl
    by true true true false like some all rest_is = absurd (true≢false (like refl))
    by true true false true like some all rest_is = absurd (true≢false (sym (like refl)))
    by true true false false like some all rest_is = rest_is

-- what passes a stronger test passes a weaker one
pub any_weaker : {X : Type 0} (p q : X → Bool) → ((x : X) → p x ≡ true → q x ≡ true) → (xs : List X) → list_any p xs ≡ true → list_any q xs ≡ true
any_weaker p q weaker [] h = h
any_weaker p q weaker (x ∷ xs) h =
    elim (or_cases (p x) (list_any p xs) h) as (λ _. (q x || list_any q xs) ≡ true)
    [ inl first ↦ or_left (q x) (list_any q xs) (weaker x first) | inr later ↦ or_right (q x) (list_any q xs) (any_weaker p q weaker xs later) ]

-- a key is live in a lane exactly if it has the lane and one of its steps makes it live
pub live_in_lane : (lanes lane at : ℕ) (history : List Entry) (q : KeyParts) → is_member same_key (filter (λ k. is_live k at history) (map (λ e. e.key) (entries_in lanes lane history))) q ≡ ((lane_of_key lanes q == lane) && is_made_live q at history)
live_in_lane lanes lane at history q =
    is_member-filter same_key-equiv (λ k. is_live k at history) q (alike_from_same same_key-Decides (λ k. is_live k at history) q) (map (λ e. e.key) (entries_in lanes lane history))
    ∙ ap (λ b. is_member same_key (map (λ e. e.key) (entries_in lanes lane history)) q && b) (is_live_any q at history)
    ∙ ap (λ b. b && is_made_live q at history) (any_key (λ e. lane_of_key lanes e.key == lane) q history ∙ any_in_lane lanes lane (λ _. true) q history)
    ∙ by (lane_of_key lanes q == lane) (list_any (λ e. same_key q e.key) history) (is_made_live q at history) (any_weaker (λ e. makes_live at e && same_key q e.key) (λ e. same_key q e.key) (λ e h. (and_parts _ _ h).1) history)
  where
    by : (in_q some alive : Bool) → (alive ≡ true → some ≡ true) → ((in_q && some) && alive) ≡ (in_q && alive)
    by false some alive h = refl
    by true true alive h = refl
    by true false true h = h refl
    by true false false h = refl

made_live_in_lane : (lanes lane at : ℕ) (history : List Entry) (q : KeyParts) → is_member same_key (map (λ e. e.key) (filter (makes_live_in lanes lane at) history)) q ≡ ((lane_of_key lanes q == lane) && is_made_live q at history)
made_live_in_lane lanes lane at history q = any_key (makes_live_in lanes lane at) q history ∙ any_in_lane lanes lane (makes_live at) q history

-- the lane's live keys are those that its steps make live
pub made_live_count_is : (lanes lane at : ℕ) (history : List Entry) → made_live_count lanes lane at history ≡ live_count lanes lane at history
made_live_count_is lanes lane at history =
    le_antisymm
    (distinct_count-within _ _ (λ q m. live_in_lane lanes lane at history q ∙ sym (made_live_in_lane lanes lane at history q) ∙ m))
    (distinct_count-within _ _ (λ q m. made_live_in_lane lanes lane at history q ∙ sym (live_in_lane lanes lane at history q) ∙ m))

-- one entry more at the front
pub made_live_count_cons : (lanes lane at : ℕ) (entry : Entry) (rest : List Entry) → made_live_count lanes lane at (entry ∷ rest) ≡ cond (makes_live at entry && lane_of_key lanes entry.key == lane && not (is_made_live entry.key at rest)) 1 0 + made_live_count lanes lane at rest
made_live_count_cons lanes lane at entry rest = by (makes_live at entry) (lane_of_key lanes entry.key == lane) (made_live_in_lane lanes lane at rest entry.key)
  where
    last : (h : Bool) → length (cond h (unique_keys same_key (map (λ e. e.key) (filter (makes_live_in lanes lane at) rest))) (entry.key ∷ unique_keys same_key (map (λ e. e.key) (filter (makes_live_in lanes lane at) rest)))) ≡ cond (not h) 1 0 + made_live_count lanes lane at rest
    last true = sym (zero-add (made_live_count lanes lane at rest))
    last false = omega arith

    by : (a l : Bool) → is_member same_key (map (λ e. e.key) (filter (makes_live_in lanes lane at) rest)) entry.key ≡ (l && is_made_live entry.key at rest) → length (unique_keys same_key (map (λ e. e.key) (cond (a && l) (entry ∷ filter (makes_live_in lanes lane at) rest) (filter (makes_live_in lanes lane at) rest)))) ≡ cond (a && l && not (is_made_live entry.key at rest)) 1 0 + made_live_count lanes lane at rest
    by false l m = sym (zero-add (made_live_count lanes lane at rest))
    by true false m = sym (zero-add (made_live_count lanes lane at rest))
    by true true m = ap (λ b. length (cond b (unique_keys same_key (map (λ e. e.key) (filter (makes_live_in lanes lane at) rest))) (entry.key ∷ unique_keys same_key (map (λ e. e.key) (filter (makes_live_in lanes lane at) rest))))) m ∙ last (is_made_live entry.key at rest)

-- and no more than those steps
pub live_count-within_steps : (lanes lane at : ℕ) (history : List Entry) → live_count lanes lane at history ≤ count_by (makes_live_in lanes lane at) history
live_count-within_steps lanes lane at history =
    let some = filter (makes_live_in lanes lane at) history in
    let keys = distinct_count-le same_key (map (λ e. e.key) some) in
    omega (arith, keys, made_live_count_is lanes lane at history, length-map some (λ e. e.key), length-filter (makes_live_in lanes lane at) history)
