-- On a legal history no key counts more than its threshold, and no lane has more live keys than it has room for.
use Rattle.std.proofs.Common.{◌≡◌, ◌⊎◌, map, ℕ, suc, ◌+◌, ◌<◌, ◌≤◌, max, Bool, true, false, cond, not, ◌&&◌, ◌||◌, ◌==◌, nat_lt, nat_le, List, [], ◌∷◌, ◌++◌, filter, sum_by, Option, Some, None, is_some, refl, sym, ap, ◌∙◌, subst, arith, inl, inr, ltb-true, lt-ltb, leb-false, eqb-true}
use Rattle.std.specs.Set.{is_member}
use Rattle.std.proofs.lemmas.Bool.{true≢false, and_parts, and_from, or_left, or_right, or_cases, or_parts, eq-eqb, eqb-false}
use Rattle.std.proofs.lemmas.List.Sums.{sum_by-cons}
use Rattle.std.proofs.lemmas.List.Folds.{list_any-append}
use Rattle.rate_plain.specs.KeyParts.{KeyParts}
use Rattle.rate_plain.specs.Keys.{same_key, lane_of_key}
use Rattle.rate_plain.specs.Window.{is_pass, entries_of, entries_in, latest_of, moment_of, is_counted, weight_of, counted_of, held_until, is_live, live_count, is_shut_out, held_or}
use Rattle.rate_plain.specs.LiveSteps.{end_above, makes_live, is_made_live}
use Rattle.rate_plain.specs.History.{Follows, IsLegal}
use Rattle.rate_plain.proofs.KeyLemmas.{same_key-Decides, same_lane}
use Rattle.rate_plain.proofs.Distinct.{distinct_count-within, distinct_count-within_more}
use Rattle.rate_plain.proofs.WindowLemmas.{counted_push, latest_push}
use Rattle.rate_plain.proofs.LiveLemmas.{is_live_any, any_weaker, live_in_lane}
use Rattle.rate_plain.proofs.LegalLemmas.{by_steps}
use Rattle.rate_plain.specs.declared.entry.Entry.{Entry}
use Rattle.rate_plain.specs.declared.entry.Answer.{Answer}
use Rattle.rate_plain.specs.declared.entry.Answer.TheVariants.{Pass, Over, Full}

-- what counts at a later moment counts at an earlier one
pub counted_earlier : (at later : ℕ) → at ≤ later → (entry : Entry) → is_counted later entry ≡ true → is_counted at entry ≡ true
counted_earlier at later before entry h =
    let parts = and_parts (entry.adds && is_pass entry.answer) (nat_lt later (entry.at + entry.key.period)) h in
    let runs = ltb-true later (entry.at + entry.key.period) parts.1 in
    and_from _ _ parts.0 (lt-ltb at (entry.at + entry.key.period) (omega arith))

end_earlier : (at later : ℕ) → at ≤ later → (answer : Answer) → is_some (end_above later answer) ≡ true → is_some (end_above at answer) ≡ true
end_earlier at later before Pass h = h
end_earlier at later before (Over until) h = by (nat_lt later until) refl h
  where
    by : (b : Bool) → nat_lt later until ≡ b → is_some (cond b (Some until) None) ≡ true → is_some (cond (nat_lt at until) (Some until) None) ≡ true
    by true runs h = let runs_on = ltb-true later until runs in ap (λ b. is_some (cond b (Some until) None)) (lt-ltb at until (omega arith))
    by false runs h = absurd (true≢false (sym h))
end_earlier at later before Full h = h

pub makes_live_earlier : (at later : ℕ) → at ≤ later → (entry : Entry) → makes_live later entry ≡ true → makes_live at entry ≡ true
makes_live_earlier at later before entry h =
    elim (or_cases (is_counted later entry) (is_some (end_above later entry.answer)) h) as (λ _. makes_live at entry ≡ true) [
      | inl counts ↦ or_left (is_counted at entry) (is_some (end_above at entry.answer)) (counted_earlier at later before entry counts)
      | inr told ↦ or_right (is_counted at entry) (is_some (end_above at entry.answer)) (end_earlier at later before entry.answer told)
    ]

pub is_made_live_earlier : (at later : ℕ) → at ≤ later → (key : KeyParts) (history : List Entry) → is_made_live key later history ≡ true → is_made_live key at history ≡ true
is_made_live_earlier at later before key history =
    any_weaker (λ e. makes_live later e && same_key key e.key) (λ e. makes_live at e && same_key key e.key)
    (λ e h. let parts = and_parts (makes_live later e) (same_key key e.key) h in and_from _ _ (makes_live_earlier at later before e parts.0) parts.1) history

-- a stronger filter keeps no more
weight_within : (p q : Entry → Bool) → ((e : Entry) → p e ≡ true → q e ≡ true) → (entries : List Entry) → sum_by weight_of (filter p entries) ≤ sum_by weight_of (filter q entries)
weight_within p q weaker [] = omega arith
weight_within p q weaker (e ∷ es) = by (p e) (q e) (weaker e) (weight_within p q weaker es)
  where
    by : (b c : Bool) → (b ≡ true → c ≡ true) → sum_by weight_of (filter p es) ≤ sum_by weight_of (filter q es) → sum_by weight_of (cond b (e ∷ filter p es) (filter p es)) ≤ sum_by weight_of (cond c (e ∷ filter q es) (filter q es))
    by true true h rest = omega (arith, rest, sum_by-cons weight_of e (filter p es), sum_by-cons weight_of e (filter q es))
    by true false h rest = absurd (true≢false (sym (h refl)))
    by false true h rest = omega (arith, rest, sum_by-cons weight_of e (filter q es))
    by false false h rest = rest

pub counted_later : (key : KeyParts) (at later : ℕ) (history : List Entry) → at ≤ later → counted_of key later history ≤ counted_of key at history
counted_later key at later history before = weight_within (is_counted later) (is_counted at) (counted_earlier at later before) (entries_of key history)

-- the lane's latest moment after one more entry is not before either
pub latest_after : (lanes lane asked : ℕ) (before : List Entry) (entry : Entry) → latest_of asked (entries_in lanes lane before) ≤ latest_of asked (entries_in lanes lane (before ++ entry ∷ []))
latest_after lanes lane asked before entry = by (lane_of_key lanes entry.key == lane) (latest_push lanes lane asked before entry)
  where
    by : (b : Bool) → latest_of asked (entries_in lanes lane (before ++ entry ∷ [])) ≡ cond b (max (latest_of asked (entries_in lanes lane before)) entry.at) (latest_of asked (entries_in lanes lane before)) → latest_of asked (entries_in lanes lane before) ≤ latest_of asked (entries_in lanes lane (before ++ entry ∷ []))
    by true e = omega (arith, e)
    by false e = omega (arith, e)

pub entry_before : (lanes lane asked : ℕ) (before : List Entry) (entry : Entry) → lane_of_key lanes entry.key ≡ lane → entry.at ≤ latest_of asked (entries_in lanes lane (before ++ entry ∷ []))
entry_before lanes lane asked before entry has =
    let pushed : latest_of asked (entries_in lanes lane (before ++ entry ∷ [])) ≡ max (latest_of asked (entries_in lanes lane before)) entry.at =
    latest_push lanes lane asked before entry ∙ ap (λ b. cond b (max (latest_of asked (entries_in lanes lane before)) entry.at) (latest_of asked (entries_in lanes lane before))) (eq-eqb (lane_of_key lanes entry.key) lane has) in
    omega (arith, pushed)

-- an adding step that was let through found its key below the threshold
passes_below : (held : Option ℕ) (adds shut full : Bool) (until : ℕ) → adds ≡ true → is_pass (held_or held (cond (not adds) Pass (cond shut Full (cond full (Over until) Pass)))) ≡ true → full ≡ false
passes_below None true true full until a h = absurd (true≢false (sym h))
passes_below None true false true until a h = absurd (true≢false (sym h))
passes_below None true false false until a h = refl
passes_below None false shut full until a h = absurd (true≢false (sym a))
passes_below (Some end) adds shut full until a h = absurd (true≢false (sym h))

-- one more step that counts found its key below the threshold
counted_room : (lanes cap : ℕ) (before : List Entry) (entry : Entry) (later : ℕ) → Follows lanes cap before entry → is_counted later entry ≡ true → counted_of entry.key (moment_of lanes before entry.key entry.asked) before ≤ entry.key.threshold → counted_of entry.key (moment_of lanes before entry.key entry.asked) before < entry.key.threshold
counted_room lanes cap before entry later follows counts within =
    let at = moment_of lanes before entry.key entry.asked in
    let parts = and_parts (entry.adds && is_pass entry.answer) (nat_lt later (entry.at + entry.key.period)) counts in
    let told = and_parts entry.adds (is_pass entry.answer) parts.0 in
    let not_full = passes_below (held_until entry.key at before) entry.adds (is_shut_out lanes cap before entry.key at) (counted_of entry.key at before == entry.key.threshold) (at + entry.key.timeout) told.0 (ap is_pass (sym follows.answer) ∙ told.1) in
    let apart = eqb-false (counted_of entry.key at before) entry.key.threshold not_full in
    grind (arith, apart, within)

pub counted_within : (lanes cap : ℕ) (history : List Entry) → IsLegal lanes cap history → (key : KeyParts) (asked : ℕ) → counted_of key (moment_of lanes history key asked) history ≤ key.threshold
counted_within lanes cap = by_steps lanes cap (λ h. (key : KeyParts) (asked : ℕ) → counted_of key (moment_of lanes h key asked) h ≤ key.threshold) (λ key asked. omega arith) step
  where
    step : (before : List Entry) (entry : Entry) → Follows lanes cap before entry → ((key : KeyParts) (asked : ℕ) → counted_of key (moment_of lanes before key asked) before ≤ key.threshold) → (key : KeyParts) (asked : ℕ) → counted_of key (moment_of lanes (before ++ entry ∷ []) key asked) (before ++ entry ∷ []) ≤ key.threshold
    step before entry follows within key asked = by (same_key key entry.key && is_counted (moment_of lanes (before ++ entry ∷ []) key asked) entry) refl
      where
        by : (b : Bool) → (same_key key entry.key && is_counted (moment_of lanes (before ++ entry ∷ []) key asked) entry) ≡ b → counted_of key (moment_of lanes (before ++ entry ∷ []) key asked) (before ++ entry ∷ []) ≤ key.threshold
        by false h =
            let later = moment_of lanes (before ++ entry ∷ []) key asked in
            let pushed : counted_of key later (before ++ entry ∷ []) ≡ counted_of key later before + 0 = counted_push key later before entry ∙ ap (λ b. counted_of key later before + cond b (weight_of entry) 0) h in
            let older = counted_later key (moment_of lanes before key asked) later before (latest_after lanes (lane_of_key lanes key) asked before entry) in
            omega (arith, pushed, older, within key asked)
        by true h =
            let later = moment_of lanes (before ++ entry ∷ []) key asked in
            let parts = and_parts (same_key key entry.key) (is_counted later entry) h in
            let same = (same_key-Decides key entry.key).0 parts.0 in
            let pushed : counted_of key later (before ++ entry ∷ []) ≡ counted_of key later before + 1 = counted_push key later before entry ∙ ap (λ b. counted_of key later before + cond b (weight_of entry) 0) h in
            let sooner = entry_before lanes (lane_of_key lanes key) asked before entry (sym (same_lane lanes key entry.key parts.0)) in
            let room = counted_room lanes cap before entry later follows parts.1 (within entry.key entry.asked) in
            let older = counted_later entry.key (moment_of lanes before entry.key entry.asked) later before (omega (arith, sooner, follows.moment)) in
            let its_count = ap (λ k. counted_of k later before) same in
            let its_threshold = ap (λ k. k.threshold) same in
            omega (arith, pushed, room, older, its_count, its_threshold)

-- the live keys of a lane, before they are counted
abbrev live_keys : ℕ → ℕ → ℕ → List Entry → List KeyParts
live_keys lanes lane at history = filter (λ key. is_live key at history) (map (λ entry. entry.key) (entries_in lanes lane history))

-- a key that is live after one more entry was so before, or is that entry's
pub live_from : (lanes lane at later : ℕ) (before : List Entry) (entry : Entry) → at ≤ later → (q : KeyParts) → is_member same_key (live_keys lanes lane later (before ++ entry ∷ [])) q ≡ true → (is_member same_key (live_keys lanes lane at before) q ≡ true) ⊎ ((same_key q entry.key ≡ true) × (makes_live later entry ≡ true) × (lane_of_key lanes entry.key ≡ lane))
live_from lanes lane at later before entry sooner q m =
    by (or_cases (is_made_live q later before) (is_made_live q later (entry ∷ [])) (sym (list_any-append (λ e. makes_live later e && same_key q e.key) before (entry ∷ [])) ∙ parts.1))
  where
    parts : ((lane_of_key lanes q == lane) ≡ true) × (is_made_live q later (before ++ entry ∷ []) ≡ true)
    parts = and_parts (lane_of_key lanes q == lane) (is_made_live q later (before ++ entry ∷ [])) (sym (live_in_lane lanes lane later (before ++ entry ∷ []) q) ∙ m)

    its : ((makes_live later entry && same_key q entry.key) ≡ true) ⊎ (false ≡ true) → (same_key q entry.key ≡ true) × (makes_live later entry ≡ true) × (lane_of_key lanes entry.key ≡ lane)
    its (inl both) =
        let two = and_parts (makes_live later entry) (same_key q entry.key) both in
        (two.1, two.0, sym (same_lane lanes q entry.key two.1) ∙ eqb-true (lane_of_key lanes q) lane parts.0)
    its (inr none) = absurd (true≢false (sym none))

    by : (is_made_live q later before ≡ true) ⊎ (is_made_live q later (entry ∷ []) ≡ true) → (is_member same_key (live_keys lanes lane at before) q ≡ true) ⊎ ((same_key q entry.key ≡ true) × (makes_live later entry ≡ true) × (lane_of_key lanes entry.key ≡ lane))
    by (inl old) = inl (live_in_lane lanes lane at before q ∙ and_from _ _ parts.0 (is_made_live_earlier at later sooner q before old))
    by (inr new) = inr (its (or_cases (makes_live later entry && same_key q entry.key) false new))

-- no more keys are live after an entry whose key is so already, or which makes none live
pub live_kept : (lanes lane at later : ℕ) (before : List Entry) (entry : Entry) → at ≤ later → (makes_live later entry ≡ true → lane_of_key lanes entry.key ≡ lane → is_made_live entry.key at before ≡ true) → live_count lanes lane later (before ++ entry ∷ []) ≤ live_count lanes lane at before
live_kept lanes lane at later before entry sooner known =
    distinct_count-within (live_keys lanes lane later (before ++ entry ∷ [])) (live_keys lanes lane at before)
    (λ q m. by q (live_from lanes lane at later before entry sooner q m))
  where
    by : (q : KeyParts) → (is_member same_key (live_keys lanes lane at before) q ≡ true) ⊎ ((same_key q entry.key ≡ true) × (makes_live later entry ≡ true) × (lane_of_key lanes entry.key ≡ lane)) → is_member same_key (live_keys lanes lane at before) q ≡ true
    by q (inl old) = old
    by q (inr new) =
        let same = (same_key-Decides q entry.key).0 new.0 in
        let lane_is = eq-eqb (lane_of_key lanes q) lane (same_lane lanes q entry.key new.0 ∙ new.2) in
        let alive : is_made_live q at before ≡ true = ap (λ k. is_made_live k at before) same ∙ known new.1 new.2 in
        live_in_lane lanes lane at before q ∙ and_from _ _ lane_is alive

-- and at most one more after any
pub live_grown : (lanes lane at later : ℕ) (before : List Entry) (entry : Entry) → at ≤ later → live_count lanes lane later (before ++ entry ∷ []) ≤ suc (live_count lanes lane at before)
live_grown lanes lane at later before entry sooner =
    distinct_count-within_more entry.key (live_keys lanes lane later (before ++ entry ∷ [])) (live_keys lanes lane at before)
    (λ q m. by q (live_from lanes lane at later before entry sooner q m))
  where
    by : (q : KeyParts) → (is_member same_key (live_keys lanes lane at before) q ≡ true) ⊎ ((same_key q entry.key ≡ true) × (makes_live later entry ≡ true) × (lane_of_key lanes entry.key ≡ lane)) → (same_key q entry.key || is_member same_key (live_keys lanes lane at before) q) ≡ true
    by q (inl old) = or_right _ _ old
    by q (inr new) = or_left _ _ new.0

-- a step that makes a key live, which no earlier one holds, wasn't shut out
live_not_shut : (held : Option ℕ) (adds shut full runs : Bool) (until at : ℕ) → is_some held ≡ false → ((adds && is_pass (held_or held (cond (not adds) Pass (cond shut Full (cond full (Over until) Pass)))) && runs) || is_some (end_above at (held_or held (cond (not adds) Pass (cond shut Full (cond full (Over until) Pass)))))) ≡ true → shut ≡ false
live_not_shut (Some end) adds shut full runs until at none h = absurd (true≢false none)
live_not_shut None false shut full runs until at none h = absurd (true≢false (sym h))
live_not_shut None true true full runs until at none h = absurd (true≢false (sym h))
live_not_shut None true false full runs until at none h = refl

-- so its lane had room
live_room : (lanes cap later : ℕ) (before : List Entry) (entry : Entry) → Follows lanes cap before entry → makes_live later entry ≡ true → is_made_live entry.key (moment_of lanes before entry.key entry.asked) before ≡ false → live_count lanes (lane_of_key lanes entry.key) (moment_of lanes before entry.key entry.asked) before < cap
live_room lanes cap later before entry follows alive dead =
    let at = moment_of lanes before entry.key entry.asked in
    let count = live_count lanes (lane_of_key lanes entry.key) at before in
    let not_live = is_live_any entry.key at before ∙ dead in
    let parts = or_parts (nat_lt 0 (counted_of entry.key at before)) (is_some (held_until entry.key at before)) not_live in
    let IsAlive : Answer → Type 0 = λ a. ((entry.adds && is_pass a && nat_lt later (entry.at + entry.key.period)) || is_some (end_above later a)) ≡ true in
    let open_lane = live_not_shut (held_until entry.key at before) entry.adds (is_shut_out lanes cap before entry.key at) (counted_of entry.key at before == entry.key.threshold) (nat_lt later (entry.at + entry.key.period)) (at + entry.key.timeout) later parts.1 (subst IsAlive follows.answer alive) in
    leb-false cap count (sym (ap (λ b. not b && nat_le cap count) not_live) ∙ open_lane)

-- one more step in a lane leaves no more live keys than there is room for
live_own : (lanes cap : ℕ) (before : List Entry) (entry : Entry) → Follows lanes cap before entry → ((lane asked : ℕ) → live_count lanes lane (latest_of asked (entries_in lanes lane before)) before ≤ cap) → (asked : ℕ) → live_count lanes (lane_of_key lanes entry.key) (latest_of asked (entries_in lanes (lane_of_key lanes entry.key) (before ++ entry ∷ []))) (before ++ entry ∷ []) ≤ cap
live_own lanes cap before entry follows within asked =
    by (is_made_live entry.key (moment_of lanes before entry.key entry.asked) before) (makes_live (latest_of asked (entries_in lanes (lane_of_key lanes entry.key) (before ++ entry ∷ []))) entry) refl refl
  where
    sooner : moment_of lanes before entry.key entry.asked ≤ latest_of asked (entries_in lanes (lane_of_key lanes entry.key) (before ++ entry ∷ []))
    sooner = let least = entry_before lanes (lane_of_key lanes entry.key) asked before entry refl in omega (arith, least, follows.moment)

    by : (live alive : Bool) → is_made_live entry.key (moment_of lanes before entry.key entry.asked) before ≡ live → makes_live (latest_of asked (entries_in lanes (lane_of_key lanes entry.key) (before ++ entry ∷ []))) entry ≡ alive → live_count lanes (lane_of_key lanes entry.key) (latest_of asked (entries_in lanes (lane_of_key lanes entry.key) (before ++ entry ∷ []))) (before ++ entry ∷ []) ≤ cap
    by true alive live_is alive_is =
        let kept = live_kept lanes (lane_of_key lanes entry.key) (moment_of lanes before entry.key entry.asked) _ before entry sooner (λ _ _. live_is) in
        omega (arith, kept, within (lane_of_key lanes entry.key) entry.asked)
    by false false live_is alive_is =
        let kept = live_kept lanes (lane_of_key lanes entry.key) (moment_of lanes before entry.key entry.asked) _ before entry sooner (λ a _. absurd (true≢false (sym a ∙ alive_is))) in
        omega (arith, kept, within (lane_of_key lanes entry.key) entry.asked)
    by false true live_is alive_is =
        let grown = live_grown lanes (lane_of_key lanes entry.key) (moment_of lanes before entry.key entry.asked) _ before entry sooner in
        let room = live_room lanes cap _ before entry follows alive_is live_is in
        omega (arith, grown, room)

live_step : (lanes cap : ℕ) (before : List Entry) (entry : Entry) → Follows lanes cap before entry → ((lane asked : ℕ) → live_count lanes lane (latest_of asked (entries_in lanes lane before)) before ≤ cap) → (lane asked : ℕ) → live_count lanes lane (latest_of asked (entries_in lanes lane (before ++ entry ∷ []))) (before ++ entry ∷ []) ≤ cap
live_step lanes cap before entry follows within lane asked = by (lane_of_key lanes entry.key == lane) refl
  where
    by : (b : Bool) → (lane_of_key lanes entry.key == lane) ≡ b → live_count lanes lane (latest_of asked (entries_in lanes lane (before ++ entry ∷ []))) (before ++ entry ∷ []) ≤ cap
    by true has =
        subst (λ n. live_count lanes n (latest_of asked (entries_in lanes n (before ++ entry ∷ []))) (before ++ entry ∷ []) ≤ cap)
        (eqb-true (lane_of_key lanes entry.key) lane has) (live_own lanes cap before entry follows within asked)
    by false has =
        let kept = live_kept lanes lane (latest_of asked (entries_in lanes lane before)) _ before entry (latest_after lanes lane asked before entry) (λ _ l. absurd (eqb-false (lane_of_key lanes entry.key) lane has l)) in
        omega (arith, kept, within lane asked)

pub live_within : (lanes cap : ℕ) (history : List Entry) → IsLegal lanes cap history → (key : KeyParts) (asked : ℕ) → live_count lanes (lane_of_key lanes key) (moment_of lanes history key asked) history ≤ cap
live_within lanes cap history legal key asked =
    by_steps lanes cap (λ h. (lane asked : ℕ) → live_count lanes lane (latest_of asked (entries_in lanes lane h)) h ≤ cap) (λ lane asked. omega arith) (live_step lanes cap) history legal (lane_of_key lanes key) asked
