-- The moments of a key, and what one more step of it changes.
use Rattle.std.proofs.Common.{◌≡◌, ◌⊎◌, inl, inr, ℕ, suc, ◌+◌, ◌-◌, ◌<◌, ◌≤◌, ◌≢◌, max, Bool, true, false, cond, not, ◌&&◌, ◌||◌, ◌==◌, nat_lt, List, [], ◌∷◌, ◌++◌, length, filter, drop, Option, Some, None, is_some, refl, sym, ap, ◌∙◌, subst, arith, ltb-true, lt-ltb, le-leb, leb-true, eqb-true, append-nil, add-zero}
use Rattle.std.proofs.lemmas.Bool.{true≢false, false_from_ne_true, eq-eqb, or_parts, cases_lt}
use Rattle.std.proofs.lemmas.List.{length_push}
use Rattle.std.proofs.lemmas.List.Elements.{filter-append}
use Rattle.std.proofs.lemmas.List.Folds.{list_any-append}
use Rattle.rate_plain.specs.KeyParts.{KeyParts}
use Rattle.rate_plain.specs.Keys.{same_key}
use Rattle.rate_plain.specs.Window.{counted_of, held_until, is_live, held_or, is_counted}
use Rattle.rate_plain.specs.LiveSteps.{end_above, makes_live}
use Rattle.rate_plain.proofs.KeyLemmas.{same_key-refl}
use Rattle.rate_plain.proofs.WindowLemmas.{held_with, counted_push, held_push}
use Rattle.rate_plain.proofs.LiveLemmas.{is_live_any}
use Rattle.rate_plain.specs.declared.entry.Entry.{Entry}
use Rattle.rate_plain.specs.declared.entry.Answer.TheVariants.{Pass, Over}
use Rattle.circular_buffer.specs.Buffer.{buffer, keep_last}
use Rattle.rate_lane.specs.KeyState.{dead_state, counted_among, Ascends, is_oldest_over, Forgets, IsStateOf, IsReady, answer_within, entry_at, StepsKey}
use Rattle.rate_lane.specs.declared.key_state.KeyState.{KeyState}

-- where a moment isn't below another, the test says so
pub not_lt : (a b : ℕ) → b ≤ a → nat_lt a b ≡ false
not_lt a b h = by (nat_lt a b) refl
  where
    by : (c : Bool) → nat_lt a b ≡ c → nat_lt a b ≡ false
    by true e = absurd (none (ltb-true a b e))
      where
        none : a < b → ⊥
        none l = omega (arith, l, h)
    by false e = e

-- moments ascend from any earlier one, and to any later
pub ascends_from : (from sooner : ℕ) (moments : List ℕ) (to : ℕ) → sooner ≤ from → Ascends from moments to → Ascends sooner moments to
ascends_from from sooner [] to h a = omega (arith, h, a)
ascends_from from sooner (m ∷ ms) to h a = (omega (arith, h, a.0), a.1)

pub ascends_to : (from : ℕ) (moments : List ℕ) (to later : ℕ) → to ≤ later → Ascends from moments to → Ascends from moments later
ascends_to from [] to later h a = omega (arith, h, a)
ascends_to from (m ∷ ms) to later h a = (a.0, ascends_to m ms to later h a.1)

-- and with a last one more
pub ascends_push : (from : ℕ) (moments : List ℕ) (to : ℕ) → Ascends from moments to → Ascends from (moments ++ to ∷ []) to
ascends_push from [] to a = (a, omega arith)
ascends_push from (m ∷ ms) to a = (a.0, ascends_push m ms to a.1)

-- from one that counts on all count
all_count_from : (period at from : ℕ) (moments : List ℕ) (to : ℕ) → at < from + period → Ascends from moments to → counted_among period at moments ≡ length moments
all_count_from period at from [] to counts a = refl
all_count_from period at from (m ∷ ms) to counts a =
    let its : at < m + period = omega (arith, counts, a.0) in
    ap (λ b. length (cond b (m ∷ filter (λ x. nat_lt at (x + period)) ms) (filter (λ x. nat_lt at (x + period)) ms))) (lt-ltb at (m + period) its)
    ∙ ap suc (all_count_from period at m ms to its a.1)

pub forgets_none : (period at : ℕ) (moments : List ℕ) → is_oldest_over period at moments ≡ false → (to : ℕ) → Ascends 0 moments to → counted_among period at moments ≡ length moments
forgets_none period at [] first to a = refl
forgets_none period at (m ∷ ms) first to a = all_count_from period at m (m ∷ ms) to counts (omega arith, a.1)
  where
    counts : at < m + period
    counts = by (cases_lt at (m + period))
      where
        by : (at < m + period) ⊎ (m + period ≤ at) → at < m + period
        by (inl l) = l
        by (inr g) = absurd (true≢false (sym (le-leb (m + period) at g) ∙ first))

-- the first of them, once it doesn't count, never does again
pub forgets_one : (period at : ℕ) (moments : List ℕ) → is_oldest_over period at moments ≡ true → (later : ℕ) → at ≤ later → counted_among period later (drop 1 moments) ≡ counted_among period later moments
forgets_one period at [] first later h = refl
forgets_one period at (m ∷ ms) first later h =
    let over : m + period ≤ at = leb-true (m + period) at first in
    sym (ap (λ b. length (cond b (m ∷ filter (λ x. nat_lt later (x + period)) ms) (filter (λ x. nat_lt later (x + period)) ms))) (not_lt later (m + period) (omega (arith, over, h))))

pub ascends_drop : (moments : List ℕ) (to : ℕ) → Ascends 0 moments to → Ascends 0 (drop 1 moments) to
ascends_drop [] to a = a
ascends_drop (m ∷ ms) to a = ascends_from m 0 ms to (omega arith) a.1

-- one more moment counts until its period has ended
pub counted_among_push : (period later : ℕ) (moments : List ℕ) (at : ℕ) → counted_among period later (moments ++ at ∷ []) ≡ counted_among period later moments + cond (nat_lt later (at + period)) 1 0
counted_among_push period later moments at =
    ap length (filter-append (λ x. nat_lt later (x + period)) moments (at ∷ []))
    ∙ by (nat_lt later (at + period))
  where
    by : (b : Bool) → length (filter (λ x. nat_lt later (x + period)) moments ++ cond b (at ∷ []) []) ≡ counted_among period later moments + cond b 1 0
    by true = length_push (filter (λ x. nat_lt later (x + period)) moments) at
    by false = ap length (append-nil (filter (λ x. nat_lt later (x + period)) moments)) ∙ sym (add-zero (counted_among period later moments))

or_false : (b : Bool) → (b || false) ≡ b
or_false true = refl
or_false false = refl

-- a key is live after one more step exactly if it was so before or that step makes it so
pub is_live_push : (key : KeyParts) (later : ℕ) (history : List Entry) (entry : Entry) → is_live key later (history ++ entry ∷ []) ≡ (is_live key later history || (makes_live later entry && same_key key entry.key))
is_live_push key later history entry =
    is_live_any key later (history ++ entry ∷ [])
    ∙ list_any-append (λ e. makes_live later e && same_key key e.key) history (entry ∷ [])
    ∙ (λ i. sym (is_live_any key later history) i || or_false (makes_live later entry && same_key key entry.key) i)

-- the state after one more step of its key, by what that step adds to each of the three
pub state_grows : (before after : KeyState) (key : KeyParts) (at : ℕ) (history : List Entry) (entry : Entry) → IsStateOf before key at history → entry.key ≡ key →
    ((later : ℕ) → at ≤ later → counted_among key.period later after.moments.items ≡ counted_among key.period later before.moments.items + cond (is_counted later entry) 1 0) →
    ((later : ℕ) → at ≤ later → end_above later (Over after.held_until) ≡ held_with (end_above later (Over before.held_until)) (end_above later entry.answer)) →
    ((later : ℕ) → at ≤ later → nat_lt later after.live_until ≡ (nat_lt later before.live_until || makes_live later entry)) →
    Ascends 0 after.moments.items at → after.moments.capacity ≡ before.moments.capacity → length after.moments.items ≤ after.moments.capacity →
    IsStateOf after key at (history ++ entry ∷ [])
state_grows before after key at history entry state own counts holds lives ascends places within = record {
  counted = λ later h.
      counted_push key later history entry
      ∙ (λ i. state.counted later h i + cond (same i && is_counted later entry) 1 0)
      ∙ sym (counts later h);
  held = λ later h.
      held_push key later history entry
      ∙ (λ i. held_with (state.held later h i) (cond (same i) (end_above later entry.answer) None))
      ∙ sym (holds later h);
  live = λ later h.
      is_live_push key later history entry
      ∙ (λ i. state.live later h i || (makes_live later entry && same i))
      ∙ ap (λ b. nat_lt later before.live_until || b) (and_true (makes_live later entry))
      ∙ sym (lives later h);
  ascends = ascends;
  some_place = omega (arith, places, state.some_place);
  places = omega (arith, places, state.places);
  within = within;
}
  where
    same : same_key key entry.key ≡ true
    same = ap (same_key key) own ∙ same_key-refl key

    and_true : (b : Bool) → (b && true) ≡ b
    and_true true = refl
    and_true false = refl

lt_max : (x a b : ℕ) → nat_lt x (max a b) ≡ (nat_lt x a || nat_lt x b)
lt_max x a b = by (cases_lt x a) (cases_lt x b)
  where
    by : (x < a) ⊎ (a ≤ x) → (x < b) ⊎ (b ≤ x) → nat_lt x (max a b) ≡ (nat_lt x a || nat_lt x b)
    by (inl l) r = lt-ltb x (max a b) (omega (arith, l)) ∙ sym (ap (λ c. c || nat_lt x b) (lt-ltb x a l))
    by (inr g) (inl l) = lt-ltb x (max a b) (omega (arith, l)) ∙ sym ((λ i. not_lt x a g i || lt-ltb x b l i))
    by (inr g) (inr h) = not_lt x (max a b) (omega (arith, g, h)) ∙ sym ((λ i. not_lt x a g i || not_lt x b h i))

some_end : (b : Bool) (until : ℕ) → is_some (cond b (Some until) None) ≡ b
some_end true until = refl
some_end false until = refl

-- a step that is over counts nothing
not_counted : (adds b : Bool) → ((adds && false) && b) ≡ false
not_counted true b = refl
not_counted false b = refl

-- the state after a step that is told an end
over_grows : (before after : KeyState) (key : KeyParts) (adds : Bool) (at until : ℕ) (history : List Entry) → IsStateOf before key at history →
    ((later : ℕ) → at ≤ later → counted_among key.period later after.moments.items ≡ counted_among key.period later before.moments.items) →
    ((later : ℕ) → at ≤ later → end_above later (Over after.held_until) ≡ held_with (end_above later (Over before.held_until)) (end_above later (Over until))) →
    ((later : ℕ) → at ≤ later → nat_lt later after.live_until ≡ (nat_lt later before.live_until || nat_lt later until)) →
    Ascends 0 after.moments.items at → after.moments.capacity ≡ before.moments.capacity → length after.moments.items ≤ after.moments.capacity →
    (caller asked : ℕ) → IsStateOf after key at (history ++ entry_at caller asked key at adds (Over until) ∷ [])
over_grows before after key adds at until history state counts holds lives ascends places within caller asked =
    state_grows before after key at history (entry_at caller asked key at adds (Over until)) state refl
    (λ later h.
    counts later h
    ∙ sym (add-zero (counted_among key.period later before.moments.items))
    ∙ ap (λ b. counted_among key.period later before.moments.items + cond b 1 0) (sym (not_counted adds (nat_lt later (at + key.period)))))
    holds
    (λ later h.
    lives later h
    ∙ ap (λ b. nat_lt later before.live_until || b)
    (sym (some_end (nat_lt later until) until) ∙ ap (λ b. b || is_some (end_above later (Over until))) (sym (not_counted adds (nat_lt later (at + key.period))))))
    ascends places within

-- a step that finds its key held
pub steps_held : (state : KeyState) (key : KeyParts) (adds : Bool) (at : ℕ) → at < state.held_until → StepsKey state state key adds at (Over state.held_until)
steps_held state key adds at runs history stands ready = (told, over_grows state state key adds at state.held_until history stands (λ _ _. refl) (λ later h. again (nat_lt later state.held_until)) longer stands.ascends refl stands.within)
  where
    now : end_above at (Over state.held_until) ≡ Some state.held_until
    now = ap (λ b. cond b (Some state.held_until) None) (lt-ltb at state.held_until runs)

    told : Over state.held_until ≡ answer_within history key adds at
    told = sym (ap (λ held. held_or held (cond (not adds) Pass (cond (counted_of key at history == key.threshold) (Over (at + key.timeout)) Pass))) (stands.held at (omega arith) ∙ now))

    again : (b : Bool) → cond b (Some state.held_until) None ≡ held_with (cond b (Some state.held_until) None) (cond b (Some state.held_until) None)
    again true = ap Some (omega arith)
    again false = refl

    twice : (b c : Bool) → (b || c) ≡ ((b || c) || c)
    twice true c = refl
    twice false true = refl
    twice false false = refl

    -- a key that is held so long is live so long
    longer : (later : ℕ) → at ≤ later → nat_lt later state.live_until ≡ (nat_lt later state.live_until || nat_lt later state.held_until)
    longer later h =
        let live = sym (stands.live later h) ∙ (λ i. nat_lt 0 (counted_of key later history) || is_some (stands.held later h i)) ∙ ap (λ b. nat_lt 0 (counted_of key later history) || b) (some_end (nat_lt later state.held_until) state.held_until) in
        live ∙ twice (nat_lt 0 (counted_of key later history)) (nat_lt later state.held_until) ∙ ap (λ b. b || nat_lt later state.held_until) (sym live)

-- what a key that isn't held is told
told_free : (state : KeyState) (key : KeyParts) (adds : Bool) (at : ℕ) (history : List Entry) → state.held_until ≤ at → IsStateOf state key at history →
    answer_within history key adds at ≡ cond (not adds) Pass (cond (counted_among key.period at state.moments.items == key.threshold) (Over (at + key.timeout)) Pass)
told_free state key adds at history free stands =
    λ i. held_or ((stands.held at (omega arith) ∙ ap (λ b. cond b (Some state.held_until) None) (not_lt at state.held_until free)) i)
    (cond (not adds) Pass (cond (stands.counted at (omega arith) i == key.threshold) (Over (at + key.timeout)) Pass))

-- a step that doesn't add, of a key that isn't held
pub steps_looking : (state : KeyState) (key : KeyParts) (adds : Bool) (at : ℕ) → state.held_until ≤ at → adds ≡ false → StepsKey state state key adds at Pass
steps_looking state key true at free looks history stands ready = absurd (true≢false looks)
steps_looking state key false at free looks history stands ready = (
  sym (told_free state key false at history free stands),
  λ caller asked. state_grows state state key at history (entry_at caller asked key at false Pass) stands refl
      (λ later h. sym (add-zero (counted_among key.period later state.moments.items)))
      (λ later h. refl)
      (λ later h. sym (or_false (nat_lt later state.live_until)))
      stands.ascends refl stands.within,
)

-- a step at the threshold
steps_over : (before after : KeyState) (key : KeyParts) (adds : Bool) (at : ℕ) → before.held_until ≤ at → adds ≡ true →
    Forgets key.period at before.moments.items after.moments.items → after.moments.capacity ≡ before.moments.capacity → length after.moments.items ≡ key.threshold →
    after.held_until ≡ at + key.timeout → after.live_until ≡ max before.live_until (at + key.timeout) →
    StepsKey before after key adds at (Over (at + key.timeout))
steps_over before after key false at free counts forgets places full held live history stands ready = absurd (true≢false (sym counts))
steps_over before after key true at free counts forgets places full held live history stands ready = (
  sym (told_free before key true at history free stands ∙ ap (λ b. cond b (Over (at + key.timeout)) Pass) (eq-eqb (counted_among key.period at before.moments.items) key.threshold reached)),
  over_grows before after key true at (at + key.timeout) history stands
      (λ later h. forgets.counted later h)
      (λ later h. ap (λ u. cond (nat_lt later u) (Some u) None) held ∙ alone later (nat_lt later (at + key.timeout)) ∙ ap (λ o. held_with o (cond (nat_lt later (at + key.timeout)) (Some (at + key.timeout)) None)) (sym (ap (λ b. cond b (Some before.held_until) None) (not_lt later before.held_until (omega (arith, free, h))))))
      (λ later h. ap (nat_lt later) live ∙ lt_max later before.live_until (at + key.timeout))
      (forgets.ascends at stands.ascends) places (omega (arith, forgets.fewer, stands.within, places)),
)
  where
    reached : counted_among key.period at before.moments.items ≡ key.threshold
    reached = sym (forgets.counted at (omega arith)) ∙ forgets.all_count at stands.ascends ∙ full

    alone : (later : ℕ) (b : Bool) → cond b (Some (at + key.timeout)) None ≡ held_with None (cond b (Some (at + key.timeout)) None)
    alone later true = refl
    alone later false = refl

-- the same with the end as it was worked out
pub steps_over_until : (before after : KeyState) (key : KeyParts) (adds : Bool) (at until : ℕ) → until ≡ at + key.timeout → before.held_until ≤ at → adds ≡ true →
    Forgets key.period at before.moments.items after.moments.items → after.moments.capacity ≡ before.moments.capacity → length after.moments.items ≡ key.threshold →
    after.held_until ≡ until → after.live_until ≡ max before.live_until until →
    StepsKey before after key adds at (Over until)
steps_over_until before after key adds at until same free counts forgets places full held live =
    subst (λ u. StepsKey before after key adds at (Over u)) (sym same)
    (steps_over before after key adds at free counts forgets places full (held ∙ same) (live ∙ ap (max before.live_until) same))

-- a step that is let through and counts
pub steps_pass : (before after : KeyState) (key : KeyParts) (adds : Bool) (at : ℕ) (moments : List ℕ) → before.held_until ≤ at → adds ≡ true →
    Forgets key.period at before.moments.items moments → length moments ≢ key.threshold →
    after.moments ≡ buffer (keep_last before.moments.capacity (moments ++ at ∷ [])) before.moments.capacity →
    after.held_until ≡ before.held_until → after.live_until ≡ max before.live_until (at + key.period) →
    StepsKey before after key adds at Pass
steps_pass before after key false at moments free counts forgets below pushed held live history stands ready = absurd (true≢false (sym counts))
steps_pass before after key true at moments free counts forgets below pushed held live history stands ready = (
  sym (told_free before key true at history free stands ∙ ap (λ b. cond b (Over (at + key.timeout)) Pass) (false_from_ne_true (counted_among key.period at before.moments.items == key.threshold) (λ e. below (sym counted_all ∙ eqb-true (counted_among key.period at before.moments.items) key.threshold e)))),
  λ caller asked. state_grows before after key at history (entry_at caller asked key at true Pass) stands refl
      (λ later h. ap (counted_among key.period later) items ∙ counted_among_push key.period later moments at ∙ ap (λ n. n + cond (nat_lt later (at + key.period)) 1 0) (forgets.counted later h))
      (λ later h. ap (λ u. cond (nat_lt later u) (Some u) None) held)
      (λ later h. ap (nat_lt later) live ∙ lt_max later before.live_until (at + key.period) ∙ ap (λ b. nat_lt later before.live_until || b) (sym (or_false (nat_lt later (at + key.period)))))
      (subst (λ ms. Ascends 0 ms at) (sym items) (ascends_push 0 moments at (forgets.ascends at stands.ascends)))
      (ap (λ b. b.capacity) pushed)
      (omega (arith, fits, length_push moments at, ap length items, ap (λ b. b.capacity) pushed)),
)
  where
    counted_all : counted_among key.period at before.moments.items ≡ length moments
    counted_all = sym (forgets.counted at (omega arith)) ∙ forgets.all_count at stands.ascends

    fits : length moments < before.moments.capacity
    fits = by (ready refl)
      where
        by : IsReady before key.threshold → length moments < before.moments.capacity
        by (inl l) = omega (arith, l, forgets.fewer)
        by (inr r) = ne_lt (length moments) before.moments.capacity (omega (arith, forgets.fewer, stands.within)) (λ e. below (omega (arith, e, r, stands.places)))
          where
            ne_lt : (a b : ℕ) → a ≤ b → a ≢ b → a < b
            ne_lt a b le ne = pick (cases_lt a b)
              where
                pick : (a < b) ⊎ (b ≤ a) → a < b
                pick (inl l) = l
                pick (inr g) = absurd (ne (omega (arith, le, g)))

    items : after.moments.items ≡ moments ++ at ∷ []
    items =
        let none : length (moments ++ at ∷ []) - before.moments.capacity ≡ 0 = omega (arith, fits, length_push moments at) in
        ap (λ b. b.items) pushed ∙ ap (λ n. drop n (moments ++ at ∷ [])) none

-- a fresh state stands for any steps that leave its key dead
pub fresh_state : (key : KeyParts) (at : ℕ) (history : List Entry) → 1 ≤ key.threshold → ((later : ℕ) → at ≤ later → is_live key later history ≡ false) → IsStateOf dead_state key at history
fresh_state key at history some dead = record {
  counted = λ later h. none (counted_of key later history) (or_parts (nat_lt 0 (counted_of key later history)) (is_some (held_until key later history)) (dead later h)).0;
  held = λ later h. no_end (held_until key later history) (or_parts (nat_lt 0 (counted_of key later history)) (is_some (held_until key later history)) (dead later h)).1 ∙ sym (ap (λ b. cond b (Some 0) None) (not_lt later 0 (omega arith)));
  live = λ later h. dead later h ∙ sym (not_lt later 0 (omega arith));
  ascends = omega arith;
  some_place = omega arith;
  places = some;
  within = omega arith;
}
  where
    none : (n : ℕ) → nat_lt 0 n ≡ false → n ≡ 0
    none n h = by (cases_lt 0 n)
      where
        by : (0 < n) ⊎ (n ≤ 0) → n ≡ 0
        by (inl l) = absurd (true≢false (sym (lt-ltb 0 n l) ∙ h))
        by (inr g) = omega (arith, g)

    no_end : (o : Option ℕ) → is_some o ≡ false → o ≡ None
    no_end None h = refl
    no_end (Some end) h = absurd (true≢false h)
