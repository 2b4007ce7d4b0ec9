-- Moments and answers don't depend on callers.
use Rattle.std.proofs.Common.{◌≡◌, ℕ, ◌+◌, max, Bool, true, false, cond, not, ◌&&◌, ◌||◌, ◌==◌, nat_lt, nat_le, List, [], ◌∷◌, map, filter, sum_by, fold, is_some, refl, sym, ap, ◌∙◌}
use Rattle.std.specs.List.{reduce, cons_option, filter_map}
use Rattle.std.specs.Set.{distinct_count}
use Rattle.std.proofs.lemmas.List.Sums.{sum_by-cons}
use Rattle.rate_plain.specs.KeyParts.{KeyParts}
use Rattle.rate_plain.specs.Keys.{same_key, lane_of_key}
use Rattle.rate_plain.specs.Window.{end_of, entries_of, entries_in, latest_of, moment_of, is_counted, weight_of, counted_of, held_until, is_live, live_count, held_or, answer_at, answer_of}
use Rattle.rate_plain.specs.History.{without_caller, AreAlike}
use Rattle.rate_plain.specs.declared.entry.Ask.{Ask}
use Rattle.rate_plain.specs.declared.entry.Entry.{Entry}
use Rattle.rate_plain.specs.declared.entry.Answer.TheVariants.{Pass, Over, Full}

-- a test that doesn't look at callers picks the same entries
filter-without : (p : Entry → Bool) → ((e : Entry) → p (without_caller e) ≡ p e) → (history : List Entry) → filter p (map without_caller history) ≡ map without_caller (filter p history)
filter-without p like [] = refl
filter-without p like (e ∷ es) = ap (λ b. cond b (without_caller e ∷ filter p (map without_caller es)) (filter p (map without_caller es))) (like e) ∙ by (p e) (filter-without p like es)
  where
    by : (b : Bool) → filter p (map without_caller es) ≡ map without_caller (filter p es) → cond b (without_caller e ∷ filter p (map without_caller es)) (filter p (map without_caller es)) ≡ map without_caller (cond b (e ∷ filter p es) (filter p es))
    by true rest = ap (λ r. without_caller e ∷ r) rest
    by false rest = rest

-- what doesn't look at callers is the same
map-without : {X : Type 0} (f : Entry → X) → ((e : Entry) → f (without_caller e) ≡ f e) → (entries : List Entry) → map f (map without_caller entries) ≡ map f entries
map-without f like [] = refl
map-without f like (e ∷ es) = λ i. like e i ∷ map-without f like es i

ends-without : (entries : List Entry) → filter_map (λ e. end_of e.answer) (map without_caller entries) ≡ filter_map (λ e. end_of e.answer) entries
ends-without [] = refl
ends-without (e ∷ es) = ap (cons_option (end_of e.answer)) (ends-without es)

weight-without : (entries : List Entry) → sum_by weight_of (map without_caller entries) ≡ sum_by weight_of entries
weight-without [] = refl
weight-without (e ∷ es) =
    sum_by-cons weight_of (without_caller e) (map without_caller es)
    ∙ ap (λ n. weight_of e + n) (weight-without es) ∙ sym (sum_by-cons weight_of e es)

entries_of-without : (key : KeyParts) (history : List Entry) → entries_of key (map without_caller history) ≡ map without_caller (entries_of key history)
entries_of-without key history = filter-without (λ e. same_key key e.key) (λ e. refl) history

entries_in-without : (lanes lane : ℕ) (history : List Entry) → entries_in lanes lane (map without_caller history) ≡ map without_caller (entries_in lanes lane history)
entries_in-without lanes lane history = filter-without (λ e. lane_of_key lanes e.key == lane) (λ e. refl) history

latest_of-without : (lanes lane asked : ℕ) (history : List Entry) → latest_of asked (entries_in lanes lane (map without_caller history)) ≡ latest_of asked (entries_in lanes lane history)
latest_of-without lanes lane asked history =
    ap (latest_of asked) (entries_in-without lanes lane history)
    ∙ ap (fold max asked) (map-without (λ e. e.at) (λ e. refl) (entries_in lanes lane history))

counted_of-without : (key : KeyParts) (at : ℕ) (history : List Entry) → counted_of key at (map without_caller history) ≡ counted_of key at history
counted_of-without key at history =
    ap (λ es. sum_by weight_of (filter (is_counted at) es)) (entries_of-without key history)
    ∙ ap (sum_by weight_of) (filter-without (is_counted at) (λ e. refl) (entries_of key history))
    ∙ weight-without (filter (is_counted at) (entries_of key history))

held_until-without : (key : KeyParts) (at : ℕ) (history : List Entry) → held_until key at (map without_caller history) ≡ held_until key at history
held_until-without key at history =
    ap (λ es. reduce max (filter (nat_lt at) (filter_map (λ e. end_of e.answer) es))) (entries_of-without key history)
    ∙ ap (λ ends. reduce max (filter (nat_lt at) ends)) (ends-without (entries_of key history))

is_live-without : (key : KeyParts) (at : ℕ) (history : List Entry) → is_live key at (map without_caller history) ≡ is_live key at history
is_live-without key at history = λ i. nat_lt 0 (counted_of-without key at history i) || is_some (held_until-without key at history i)

live_count-without : (lanes lane at : ℕ) (history : List Entry) → live_count lanes lane at (map without_caller history) ≡ live_count lanes lane at history
live_count-without lanes lane at history =
    ap (λ keys. distinct_count same_key (filter (λ key. is_live key at (map without_caller history)) keys))
    (ap (map (λ e. e.key)) (entries_in-without lanes lane history) ∙ map-without (λ e. e.key) (λ e. refl) (entries_in lanes lane history))
    ∙ ap (λ p. distinct_count same_key (filter p (map (λ e. e.key) (entries_in lanes lane history)))) (λ i key. is_live-without key at history i)

answer_of-without : (lanes cap : ℕ) (history : List Entry) (ask : Ask) → answer_of lanes cap (map without_caller history) ask ≡ answer_of lanes cap history ask
answer_of-without lanes cap history ask =
    ap (answer_at lanes cap (map without_caller history) ask) (latest_of-without lanes (lane_of_key lanes ask.key) ask.asked history)
    ∙ (let at = moment_of lanes history ask.key ask.asked in
    λ i. held_or (held_until-without ask.key at history i)
    (cond (not ask.adds) Pass
    (cond (not (is_live-without ask.key at history i) && nat_le cap (live_count-without lanes (lane_of_key lanes ask.key) at history i)) Full
    (cond (counted_of-without ask.key at history i == ask.key.threshold) (Over (at + ask.key.timeout))
    Pass))))

pub moment_of-alike : (lanes : ℕ) (a b : List Entry) (key : KeyParts) (asked : ℕ) → AreAlike a b → moment_of lanes a key asked ≡ moment_of lanes b key asked
moment_of-alike lanes a b key asked alike =
    sym (latest_of-without lanes (lane_of_key lanes key) asked a) ∙ ap (λ h. moment_of lanes h key asked) alike ∙ latest_of-without lanes (lane_of_key lanes key) asked b

pub answer_of-alike : (lanes cap : ℕ) (a b : List Entry) (ask : Ask) → AreAlike a b → answer_of lanes cap a ask ≡ answer_of lanes cap b ask
answer_of-alike lanes cap a b ask alike =
    sym (answer_of-without lanes cap a ask) ∙ ap (λ h. answer_of lanes cap h ask) alike ∙ answer_of-without lanes cap b ask
