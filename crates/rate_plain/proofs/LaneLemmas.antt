-- What a step is told depends on its own lane alone, and on how many lanes there are not at all where all is of one.
use Rattle.std.proofs.Common.{◌≡◌, ℕ, ◌+◌, max, Bool, true, false, cond, not, ◌&&◌, ◌||◌, ◌==◌, nat_lt, nat_le, List, [], ◌∷◌, map, filter, sum_by, get_or, All, is_some, refl, sym, ap, ◌∙◌, eq-eqb, eqb-true}
use Rattle.std.specs.List.{reduce, filter_map}
use Rattle.std.specs.Set.{distinct_count}
use Rattle.std.proofs.lemmas.Bool.{false_from_ne_true, true≢false}
use Rattle.std.proofs.lemmas.List.Elements.{All-head, All-tail, filter_passes}
use Rattle.std.proofs.Math.Nat.{mod-one}
use Rattle.rate_plain.specs.KeyParts.{KeyParts}
use Rattle.rate_plain.specs.Hash.{fnv1a64_of}
use Rattle.rate_plain.specs.Keys.{same_key, key_bytes, lane_of_key}
use Rattle.rate_plain.specs.Window.{end_of, entries_of, entries_in, latest_of, moment_of, is_counted, weight_of, counted_of, held_until, is_live, live_count, held_or, answer_at, answer_of}
use Rattle.rate_plain.specs.History.{AreOneLane}
use Rattle.rate_plain.proofs.KeyLemmas.{same_lane}
use Rattle.rate_plain.specs.declared.entry.Ask.{Ask}
use Rattle.rate_plain.specs.declared.entry.Entry.{Entry}
use Rattle.rate_plain.specs.declared.entry.Answer.TheVariants.{Pass, Over, Full}

-- a filter of a wider filter is the filter
pub filter_within : {X : Type 0} (p q : X → Bool) → ((x : X) → p x ≡ true → q x ≡ true) → (xs : List X) → filter p (filter q xs) ≡ filter p xs
filter_within p q weaker [] = refl
filter_within p q weaker (x ∷ xs) = by (q x) refl (filter_within p q weaker xs)
  where
    by : (b : Bool) → q x ≡ b → filter p (filter q xs) ≡ filter p xs → filter p (cond b (x ∷ filter q xs) (filter q xs)) ≡ cond (p x) (x ∷ filter p xs) (filter p xs)
    by true is rest = ap (λ r. cond (p x) (x ∷ r) r) rest
    by false is rest =
        let fails : p x ≡ false = false_from_ne_true (p x) (λ passes. true≢false (sym (weaker x passes) ∙ is)) in
        rest ∙ sym (ap (λ b. cond b (x ∷ filter p xs) (filter p xs)) fails)

-- the entries of a lane's key are all in the lane
entries_of_lane : (lanes lane : ℕ) (key : KeyParts) → lane_of_key lanes key ≡ lane → (history : List Entry) → entries_of key (entries_in lanes lane history) ≡ entries_of key history
entries_of_lane lanes lane key has history =
    filter_within (λ e. same_key key e.key) (λ e. lane_of_key lanes e.key == lane)
    (λ e same. eq-eqb (lane_of_key lanes e.key) lane (sym (same_lane lanes key e.key same) ∙ has)) history

entries_in_again : (lanes lane : ℕ) (history : List Entry) → entries_in lanes lane (entries_in lanes lane history) ≡ entries_in lanes lane history
entries_in_again lanes lane history = filter_within (λ e. lane_of_key lanes e.key == lane) (λ e. lane_of_key lanes e.key == lane) (λ _ h. h) history

-- whether a key is live, by its entries
live_same : (key : KeyParts) (at : ℕ) (some all : List Entry) → entries_of key some ≡ entries_of key all → is_live key at some ≡ is_live key at all
live_same key at some all same =
    ap (λ es. nat_lt 0 (sum_by weight_of (filter (is_counted at) es)) || is_some (reduce max (filter (nat_lt at) (filter_map (λ e. end_of e.answer) es)))) same

-- two tests that agree on the keys of a lane keep the same ones of it
keys_agree : (lanes lane : ℕ) (f g : KeyParts → Bool) → ((k : KeyParts) → lane_of_key lanes k ≡ lane → f k ≡ g k) → (history : List Entry) → filter f (map (λ e. e.key) (entries_in lanes lane history)) ≡ filter g (map (λ e. e.key) (entries_in lanes lane history))
keys_agree lanes lane f g agree [] = refl
keys_agree lanes lane f g agree (entry ∷ rest) = by (lane_of_key lanes entry.key == lane) refl (keys_agree lanes lane f g agree rest)
  where
    by : (b : Bool) → (lane_of_key lanes entry.key == lane) ≡ b → filter f (map (λ e. e.key) (entries_in lanes lane rest)) ≡ filter g (map (λ e. e.key) (entries_in lanes lane rest)) → filter f (map (λ e. e.key) (cond b (entry ∷ entries_in lanes lane rest) (entries_in lanes lane rest))) ≡ filter g (map (λ e. e.key) (cond b (entry ∷ entries_in lanes lane rest) (entries_in lanes lane rest)))
    by true has same =
        let alike = agree entry.key (eqb-true (lane_of_key lanes entry.key) lane has) in
        λ i. cond (alike i) (entry.key ∷ same i) (same i)
    by false has same = same

live_count_lane : (lanes lane at : ℕ) (history : List Entry) → live_count lanes lane at (entries_in lanes lane history) ≡ live_count lanes lane at history
live_count_lane lanes lane at history =
    ap (λ es. distinct_count same_key (filter (λ k. is_live k at (entries_in lanes lane history)) (map (λ e. e.key) es))) (entries_in_again lanes lane history)
    ∙ ap (distinct_count same_key) (keys_agree lanes lane (λ k. is_live k at (entries_in lanes lane history)) (λ k. is_live k at history)
    (λ k has. live_same k at (entries_in lanes lane history) history (entries_of_lane lanes lane k has history)) history)

-- the moment of a step depends on its lane alone
pub moment_of-lane : (lanes : ℕ) (history : List Entry) (key : KeyParts) (asked : ℕ) → moment_of lanes (entries_in lanes (lane_of_key lanes key) history) key asked ≡ moment_of lanes history key asked
moment_of-lane lanes history key asked = ap (latest_of asked) (entries_in_again lanes (lane_of_key lanes key) history)

-- and so does its answer
pub answer_of-lane : (lanes cap : ℕ) (history : List Entry) (ask : Ask) → answer_of lanes cap (entries_in lanes (lane_of_key lanes ask.key) history) ask ≡ answer_of lanes cap history ask
answer_of-lane lanes cap history ask =
    let lane = lane_of_key lanes ask.key in
    let some = entries_in lanes lane history in
    let at = moment_of lanes history ask.key ask.asked in
    let own = entries_of_lane lanes lane ask.key refl history in
    let live = live_same ask.key at some history own in
    let count = live_count_lane lanes lane at history in
    ap (answer_at lanes cap some ask) (moment_of-lane lanes history ask.key ask.asked)
    ∙ (λ i. held_or (reduce max (filter (nat_lt at) (filter_map (λ e. end_of e.answer) (own i))))
    (cond (not ask.adds) Pass
    (cond (not (live i) && nat_le cap (count i)) Full
    (cond (sum_by weight_of (filter (is_counted at) (own i)) == ask.key.threshold) (Over (at + ask.key.timeout))
    Pass))))

-- a list whose entries all pass is its own filter
filter_all : {X : Type 0} (p : X → Bool) (xs : List X) → All (λ x. p x ≡ true) xs → filter p xs ≡ xs
filter_all p [] all = refl
filter_all p (x ∷ xs) all =
    ap (λ b. cond b (x ∷ filter p xs) (filter p xs)) (All-head (λ x. p x ≡ true) x xs all)
    ∙ ap (λ r. x ∷ r) (filter_all p xs (All-tail (λ x. p x ≡ true) x xs all))

entries_in-one : (lanes : ℕ) (key : KeyParts) (history : List Entry) → AreOneLane lanes key history → entries_in lanes (lane_of_key lanes key) history ≡ history
entries_in-one lanes key history one =
    filter_all (λ e. lane_of_key lanes e.key == lane_of_key lanes key) history
    (λ k d below. eq-eqb _ _ (one k d below))

-- where all is of one lane, the moment is the same at any number of lanes
pub moment_of-one : (lanes other : ℕ) (history : List Entry) (key : KeyParts) (asked : ℕ) → AreOneLane lanes key history → AreOneLane other key history → moment_of lanes history key asked ≡ moment_of other history key asked
moment_of-one lanes other history key asked one two =
    ap (latest_of asked) (entries_in-one lanes key history one ∙ sym (entries_in-one other key history two))

-- and so is the answer
pub answer_of-one : (lanes other cap : ℕ) (history : List Entry) (ask : Ask) → AreOneLane lanes ask.key history → AreOneLane other ask.key history → answer_of lanes cap history ask ≡ answer_of other cap history ask
answer_of-one lanes other cap history ask one two =
    let same = entries_in-one lanes ask.key history one ∙ sym (entries_in-one other ask.key history two) in
    let at = moment_of other history ask.key ask.asked in
    ap (answer_at lanes cap history ask) (moment_of-one lanes other history ask.key ask.asked one two)
    ∙ (λ i. held_or (held_until ask.key at history)
    (cond (not ask.adds) Pass
    (cond (not (is_live ask.key at history) && nat_le cap (distinct_count same_key (filter (λ k. is_live k at history) (map (λ e. e.key) (same i))))) Full
    (cond (counted_of ask.key at history == ask.key.threshold) (Over (at + ask.key.timeout))
    Pass))))

-- the entries of a lane are all of it, and any are of the only lane
lane_is_one : (lanes : ℕ) (key : KeyParts) (history : List Entry) → AreOneLane lanes key (entries_in lanes (lane_of_key lanes key) history)
lane_is_one lanes key history k d below =
    eqb-true _ _ (filter_passes (λ e. lane_of_key lanes e.key == lane_of_key lanes key) history k d below)

only_lane : (key : KeyParts) (entries : List Entry) → AreOneLane 1 key entries
only_lane key entries k d below =
    mod-one (fnv1a64_of (key_bytes (get_or entries k d).key)) ∙ sym (mod-one (fnv1a64_of (key_bytes key)))

-- a lane by itself gives the moment and the answer of the whole
pub moment_of-alone : (lanes : ℕ) (history : List Entry) (key : KeyParts) (asked : ℕ) → moment_of 1 (entries_in lanes (lane_of_key lanes key) history) key asked ≡ moment_of lanes history key asked
moment_of-alone lanes history key asked =
    let own = entries_in lanes (lane_of_key lanes key) history in
    moment_of-one 1 lanes own key asked (only_lane key own) (lane_is_one lanes key history) ∙ moment_of-lane lanes history key asked

pub answer_of-alone : (lanes cap : ℕ) (history : List Entry) (ask : Ask) → answer_of 1 cap (entries_in lanes (lane_of_key lanes ask.key) history) ask ≡ answer_of lanes cap history ask
answer_of-alone lanes cap history ask =
    let own = entries_in lanes (lane_of_key lanes ask.key) history in
    answer_of-one 1 lanes cap own ask (only_lane ask.key own) (lane_is_one lanes ask.key history) ∙ answer_of-lane lanes cap history ask
