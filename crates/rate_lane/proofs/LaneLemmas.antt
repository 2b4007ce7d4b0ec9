-- What is kept of a lane's keys, as steps are taken and dead keys are dropped.
use Rattle.std.proofs.Common.{◌≡◌, inl, map, ℕ, ◌+◌, ◌<◌, ◌≤◌, Bool, true, false, cond, not, ◌&&◌, ◌||◌, ◌==◌, nat_lt, nat_le, List, [], ◌∷◌, ◌++◌, length, filter, Option, Some, None, is_some, refl, sym, ap, ◌∙◌, subst, arith, add-zero, true≢false, le-leb, leb-true, eq-eqb}
use Rattle.std.specs.List.{IsDistinct}
use Rattle.std.specs.Set.{is_member}
use Rattle.std.specs.Map.{keys_of, set_value}
use Rattle.std.proofs.lemmas.Bool.{false_from_ne_true}
use Rattle.std.proofs.lemmas.List.{length-map}
use Rattle.std.proofs.lemmas.Map.{lookup-set_value}
use Rattle.std.proofs.lemmas.Map.Made.{is_some-lookup, length-from_keys}
use Rattle.std.proofs.Math.Nat.{mod-one}
use Rattle.rate_plain.specs.KeyParts.{KeyParts}
use Rattle.rate_plain.specs.Hash.{fnv1a64_of}
use Rattle.rate_plain.specs.Keys.{same_key, key_bytes, lane_of_key}
use Rattle.rate_plain.specs.Window.{entries_in, counted_of, held_until, is_live, live_count, is_shut_out, held_or, is_counted, answer_at}
use Rattle.rate_plain.specs.LiveSteps.{end_above, makes_live, is_made_live}
use Rattle.rate_plain.proofs.KeyLemmas.{same_key-refl, same_key-Decides, same_key-equiv}
use Rattle.rate_plain.proofs.WindowLemmas.{held_with, counted_push, held_push}
use Rattle.rate_plain.proofs.DeadLemmas.{dead_free}
use Rattle.rate_plain.proofs.LiveLemmas.{is_live_any, live_in_lane}
use Rattle.rate_plain.specs.declared.entry.Ask.{Ask}
use Rattle.rate_plain.specs.declared.entry.Entry.{Entry}
use Rattle.rate_plain.specs.declared.entry.Answer.{Answer}
use Rattle.rate_plain.specs.declared.entry.Answer.TheVariants.{Pass, Over, Full}
use Rattle.rate_lane.specs.KeyState.{IsStateOf, answer_within, entry_at}
use Rattle.rate_lane.specs.Index.{Entries, state_of, live_at, IsKept, KeepsAll}
use Rattle.rate_lane.specs.Stepping.{AreLive, with_step, AddsState, StepsAll}
use Rattle.rate_lane.specs.declared.key_state.KeyState.{KeyState}
use Rattle.rate_lane.proofs.KeyStateLemmas.{is_live_push, fresh_state}

-- a step of another key changes nothing of what is kept of this one
other_kept : (kept : Option KeyState) (q : KeyParts) (at : ℕ) (history : List Entry) (entry : Entry) → same_key q entry.key ≡ false → IsKept kept q at history → IsKept kept q at (history ++ entry ∷ [])
other_kept kept q at history entry other was = by kept was
  where
    and_false : (b c : Bool) → c ≡ false → (b && c) ≡ false
    and_false true c e = e
    and_false false c e = refl

    or_false : (b : Bool) → (b || false) ≡ b
    or_false true = refl
    or_false false = refl

    live : (later : ℕ) → is_live q later (history ++ entry ∷ []) ≡ is_live q later history
    live later = is_live_push q later history entry ∙ ap (λ b. is_live q later history || b) (and_false (makes_live later entry) (same_key q entry.key) other) ∙ or_false (is_live q later history)

    by : (kept : Option KeyState) → IsKept kept q at history → IsKept kept q at (history ++ entry ∷ [])
    by None was = λ later h. live later ∙ was later h
    by (Some state) was = record {
      counted = λ later h. counted_push q later history entry ∙ ap (λ b. counted_of q later history + cond (b && is_counted later entry) 1 0) other ∙ add-zero (counted_of q later history) ∙ was.counted later h;
      held = λ later h. held_push q later history entry ∙ ap (λ b. held_with (held_until q later history) (cond b (end_above later entry.answer) None)) other ∙ was.held later h;
      live = λ later h. live later ∙ was.live later h;
      ascends = was.ascends;
      some_place = was.some_place;
      places = was.places;
      within = was.within;
    }

-- a step of a key that leaves this state leaves the others' as they were
pub all_stepped : (before after : Entries) (key : KeyParts) (state : KeyState) (at : ℕ) (history : List Entry) (entry : Entry) → entry.key ≡ key →
    ((q : KeyParts) → state_of after q ≡ cond (same_key key q) (Some state) (state_of before q)) → KeepsAll before at history → IsStateOf state key at (history ++ entry ∷ []) → KeepsAll after at (history ++ entry ∷ [])
all_stepped before after key state at history entry own changed was its q =
    subst (λ s. IsKept s q at (history ++ entry ∷ [])) (sym (changed q)) (by (same_key key q) refl)
  where
    by : (b : Bool) → same_key key q ≡ b → IsKept (cond b (Some state) (state_of before q)) q at (history ++ entry ∷ [])
    by true same = subst (λ k. IsStateOf state k at (history ++ entry ∷ [])) ((same_key-Decides key q).0 same) its
    by false other = other_kept (state_of before q) q at history entry (false_from_ne_true (same_key q entry.key) (λ same. true≢false (sym (flip same) ∙ other))) (was q)
      where
        flip : same_key q entry.key ≡ true → same_key key q ≡ true
        flip same = ap (same_key key) ((same_key-Decides q entry.key).0 same ∙ own) ∙ same_key-refl key

-- a step that makes no key live leaves a dead key dead
all_dead : (entries : Entries) (at : ℕ) (history : List Entry) (entry : Entry) → state_of entries entry.key ≡ None → ((later : ℕ) → makes_live later entry ≡ false) → KeepsAll entries at history → KeepsAll entries at (history ++ entry ∷ [])
all_dead entries at history entry absent dead was q = by (same_key q entry.key) refl
  where
    by : (b : Bool) → same_key q entry.key ≡ b → IsKept (state_of entries q) q at (history ++ entry ∷ [])
    by true same =
        let none : state_of entries q ≡ None = ap (state_of entries) ((same_key-Decides q entry.key).0 same) ∙ absent in
        let gone = subst (λ s. IsKept s q at history) none (was q) in
        subst (λ s. IsKept s q at (history ++ entry ∷ [])) (sym none)
        (λ later h. is_live_push q later history entry ∙ (λ i. gone later h i || (dead later i && same_key q entry.key)))
    by false other = other_kept (state_of entries q) q at history entry other (was q)

-- all keys are of the only lane
pub only_lane : (q : KeyParts) → lane_of_key 1 q ≡ 0
only_lane q = mod-one (fnv1a64_of (key_bytes q))

-- where the kept keys are the live ones, there are as many of them
pub live_are_kept : (entries : Entries) (at lane : ℕ) (history : List Entry) → lane ≡ 0 → IsDistinct same_key (keys_of entries) → AreLive entries at → KeepsAll entries at history → length entries ≡ live_count 1 lane at history
live_are_kept entries at lane history only unique live was =
    sym (length-map entries (λ e. e.0))
    ∙ length-from_keys same_key-equiv (keys_of entries) (filter (λ key. is_live key at history) (map (λ e. e.key) (entries_in 1 lane history))) unique same
  where
    kept : (q : KeyParts) (s : Option KeyState) → state_of entries q ≡ s → live_at at s ≡ s → IsKept s q at history → is_some s ≡ is_live q at history
    kept q None found lives was = sym (was at (omega arith))
    kept q (Some state) found lives was = sym (was.live at (omega arith) ∙ on (nat_lt at state.live_until) lives)
      where
        on : (b : Bool) → cond b (Some state) None ≡ Some state → b ≡ true
        on true e = refl
        on false e = absurd (true≢false (ap is_some (sym e)))

    same : (q : KeyParts) → is_member same_key (keys_of entries) q ≡ is_member same_key (filter (λ key. is_live key at history) (map (λ e. e.key) (entries_in 1 lane history))) q
    same q =
        sym (is_some-lookup (same_key q) entries)
        ∙ kept q (state_of entries q) refl (live q) (was q)
        ∙ is_live_any q at history
        ∙ sym (live_in_lane 1 lane at history q ∙ ap (λ b. b && is_made_live q at history) (eq-eqb (lane_of_key 1 q) lane (only_lane q ∙ sym only)))

-- a live key isn't shut out
pub answer_live : (cap : ℕ) (history : List Entry) (ask : Ask) (at : ℕ) → is_live ask.key at history ≡ true → answer_at 1 cap history ask at ≡ answer_within history ask.key ask.adds at
answer_live cap history ask at live =
    λ i. held_or (held_until ask.key at history)
    (cond (not ask.adds) Pass
    (cond (not (live i) && nat_le cap (live_count 1 (lane_of_key 1 ask.key) at history)) Full
    (cond (counted_of ask.key at history == ask.key.threshold) (Over (at + ask.key.timeout))
    Pass)))

-- nor is any where there is room
answer_room : (cap : ℕ) (history : List Entry) (ask : Ask) (at : ℕ) → nat_le cap (live_count 1 (lane_of_key 1 ask.key) at history) ≡ false → answer_at 1 cap history ask at ≡ answer_within history ask.key ask.adds at
answer_room cap history ask at room =
    ap (λ b. held_or (held_until ask.key at history) (cond (not ask.adds) Pass (cond b Full (cond (counted_of ask.key at history == ask.key.threshold) (Over (at + ask.key.timeout)) Pass))))
    (none (not (is_live ask.key at history)) (nat_le cap (live_count 1 (lane_of_key 1 ask.key) at history)) room)
  where
    none : (a b : Bool) → b ≡ false → (a && b) ≡ false
    none true b e = e
    none false b e = refl

-- what is kept of each key once one is set
pub set_changed : (before after : Entries) (key : KeyParts) (old new : KeyState) → state_of before key ≡ Some old → after ≡ set_value (same_key key) before new → (q : KeyParts) → state_of after q ≡ cond (same_key key q) (Some new) (state_of before q)
set_changed before after key old new found written q =
    ap (λ es. state_of es q) written
    ∙ lookup-set_value same_key-equiv (same_key key) (same_key-equiv.congr key) q new before (ap is_some found)

-- and once one is added
pub add_changed : (before after : Entries) (key : KeyParts) (new : KeyState) → state_of before key ≡ None → after ≡ before ++ (key, new) ∷ [] → (q : KeyParts) → state_of after q ≡ cond (same_key key q) (Some new) (state_of before q)
add_changed before after key new absent written q = ap (λ es. state_of es q) written ∙ last before absent
  where
    flip : (b : Bool) → same_key key q ≡ b → same_key q key ≡ b
    flip true e = ap (same_key q) ((same_key-Decides key q).0 e) ∙ same_key-refl q
    flip false e = false_from_ne_true (same_key q key) (λ s. true≢false (sym (ap (same_key key) ((same_key-Decides q key).0 s) ∙ same_key-refl key) ∙ e))

    last : (es : Entries) → state_of es key ≡ None → state_of (es ++ (key, new) ∷ []) q ≡ cond (same_key key q) (Some new) (state_of es q)
    last [] none = ap (λ b. cond b (Some new) None) (flip (same_key key q) refl)
    last (e ∷ es) none = by (same_key q e.0) refl (same_key key q) refl (last es (rest (same_key key e.0) none))
      where
        rest : (b : Bool) → cond b (Some e.1) (state_of es key) ≡ None → state_of es key ≡ None
        rest true n = absurd (true≢false (ap is_some n))
        rest false n = n

        by : (b : Bool) → same_key q e.0 ≡ b → (c : Bool) → same_key key q ≡ c → state_of (es ++ (key, new) ∷ []) q ≡ cond (same_key key q) (Some new) (state_of es q) →
            cond b (Some e.1) (state_of (es ++ (key, new) ∷ []) q) ≡ cond (same_key key q) (Some new) (cond b (Some e.1) (state_of es q))
        by false m c s r = r
        by true m false s r = sym (ap (λ d. cond d (Some new) (Some e.1)) s)
        by true m true s r =
            let there : same_key key e.0 ≡ true = ap (λ k. same_key k e.0) ((same_key-Decides key q).0 s) ∙ m in
            absurd (true≢false (ap is_some (sym (ap (λ d. cond d (Some e.1) (state_of es key)) there) ∙ none)))

-- the first step of a key that has room
pub added_steps : (before after : Entries) (cap : ℕ) (ask : Ask) (at : ℕ) (answer : Answer) → 1 ≤ ask.key.threshold → IsDistinct same_key (keys_of before) → state_of before ask.key ≡ None → ask.adds ≡ true → length before < cap →
    AddsState before after ask.key at answer → StepsAll before after cap ask at answer
added_steps before after cap ask at answer some unique absent adds room added history was live = (told, goes)
  where
    dead : (later : ℕ) → at ≤ later → is_live ask.key later history ≡ false
    dead = subst (λ s. IsKept s ask.key at history) absent (was ask.key)

    taken : (answer ≡ answer_within history ask.key true at) × ((caller asked : ℕ) → IsStateOf added.new ask.key at (history ++ entry_at caller asked ask.key at true answer ∷ []))
    taken = added.steps history (fresh_state ask.key at history some dead) (λ _. inl (omega arith))

    told : answer ≡ answer_at 1 cap history ask at
    told =
        taken.0 ∙ ap (λ b. answer_within history ask.key b at) (sym adds)
        ∙ sym (answer_room cap history ask at (ap (nat_le cap) (sym (live_are_kept before at (lane_of_key 1 ask.key) history (only_lane ask.key) unique live was)) ∙ false_from_ne_true (nat_le cap (length before)) (λ full. no (leb-true cap (length before) full))))
      where
        no : cap ≤ length before → ⊥
        no full = omega (arith, full, room)

    goes : (caller : ℕ) → KeepsAll after at (with_step history caller ask at answer)
    goes caller =
        all_stepped before after ask.key added.new at history (entry_at caller ask.asked ask.key at ask.adds answer) refl (add_changed before after ask.key added.new absent added.entries) was
        (subst (λ b. IsStateOf added.new ask.key at (history ++ entry_at caller ask.asked ask.key at b answer ∷ [])) (sym adds) (taken.1 caller ask.asked))

-- a step of a dead key that finds no room
pub full_steps : (before after : Entries) (cap : ℕ) (ask : Ask) (at : ℕ) → after ≡ before → IsDistinct same_key (keys_of before) → state_of before ask.key ≡ None → ask.adds ≡ true → cap ≤ length before → StepsAll before after cap ask at Full
full_steps before after cap ask at unchanged unique absent adds full history was live = (told, goes)
  where
    dead : is_live ask.key at history ≡ false
    dead = (subst (λ s. IsKept s ask.key at history) absent (was ask.key)) at (omega arith)

    count : nat_le cap (live_count 1 (lane_of_key 1 ask.key) at history) ≡ true
    count = le-leb cap (live_count 1 (lane_of_key 1 ask.key) at history) (omega (arith, full, live_are_kept before at (lane_of_key 1 ask.key) history (only_lane ask.key) unique live was))

    told : Full ≡ answer_at 1 cap history ask at
    told = sym (λ i. held_or (dead_free ask.key at history dead i) (cond (not (adds i)) Pass (cond (not (dead i) && count i) Full (cond (counted_of ask.key at history == ask.key.threshold) (Over (at + ask.key.timeout)) Pass))))

    none : (later : ℕ) (b : Bool) → makes_live later (entry_at 0 ask.asked ask.key at b Full) ≡ false
    none later true = refl
    none later false = refl

    goes : (caller : ℕ) → KeepsAll after at (with_step history caller ask at Full)
    goes caller = subst (λ es. KeepsAll es at (with_step history caller ask at Full)) (sym unchanged) (all_dead before at history (entry_at caller ask.asked ask.key at ask.adds Full) absent (λ later. none later ask.adds) was)

-- a step of a dead key that doesn't add
pub pass_steps : (before after : Entries) (cap : ℕ) (ask : Ask) (at : ℕ) → after ≡ before → state_of before ask.key ≡ None → ask.adds ≡ false → StepsAll before after cap ask at Pass
pass_steps before after cap ask at unchanged absent looks history was live = (told, goes)
  where
    dead : is_live ask.key at history ≡ false
    dead = (subst (λ s. IsKept s ask.key at history) absent (was ask.key)) at (omega arith)

    told : Pass ≡ answer_at 1 cap history ask at
    told = sym (λ i. held_or (dead_free ask.key at history dead i) (cond (not (looks i)) Pass (cond (is_shut_out 1 cap history ask.key at) Full (cond (counted_of ask.key at history == ask.key.threshold) (Over (at + ask.key.timeout)) Pass))))

    goes : (caller : ℕ) → KeepsAll after at (with_step history caller ask at Pass)
    goes caller =
        subst (λ es. KeepsAll es at (with_step history caller ask at Pass)) (sym unchanged)
        (all_dead before at history (entry_at caller ask.asked ask.key at ask.adds Pass) absent
        (λ later. ap (λ b. makes_live later (entry_at caller ask.asked ask.key at b Pass)) looks) was)
