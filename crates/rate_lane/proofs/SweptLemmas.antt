-- What is kept once a ring has room, a step is taken and the dead keys are dropped.
use Rattle.std.proofs.Common.{◌≡◌, ◌⊎◌, inl, inr, ℕ, ◌*◌, ◌<◌, ◌≤◌, min, Bool, true, false, cond, not, ◌&&◌, ◌==◌, nat_lt, List, [], ◌∷◌, ◌++◌, length, Option, Some, None, is_some, refl, sym, ap, ◌∙◌, subst, arith, true≢false, ltb-true, lt-ltb, eqb-true}
use Rattle.std.proofs.lemmas.Bool.{eqb-false, cases_lt}
use Rattle.rate_plain.specs.KeyParts.{KeyParts}
use Rattle.rate_plain.specs.Window.{answer_at}
use Rattle.rate_plain.specs.declared.entry.Ask.{Ask}
use Rattle.rate_plain.specs.declared.entry.Answer.{Answer}
use Rattle.rate_plain.specs.declared.entry.Entry.{Entry}
use Rattle.rate_lane.specs.KeyState.{has_room, with_room, roomed, IsStateOf, IsReady, answer_within, entry_at}
use Rattle.rate_lane.specs.Index.{Entries, state_of, live_at, IsKept, KeepsAll}
use Rattle.rate_lane.specs.Stepping.{AreLive, with_step, StepsLive, StepsAll, TakesStep}
use Rattle.rate_lane.specs.declared.key_state.KeyState.{KeyState}
use Rattle.rate_lane.proofs.KeyStateLemmas.{not_lt}
use Rattle.rate_lane.proofs.LaneLemmas.{all_stepped, answer_live, set_changed}

-- a state that is live is the one that is kept
pub kept_live : (at : ℕ) (kept : Option KeyState) (state : KeyState) → live_at at kept ≡ Some state → kept ≡ Some state
kept_live at None state e = absurd (true≢false (sym (ap is_some e)))
kept_live at (Some old) state e = by (nat_lt at old.live_until) e
  where
    by : (b : Bool) → cond b (Some old) None ≡ Some state → Some old ≡ Some state
    by true e = e
    by false e = absurd (true≢false (sym (ap is_some e)))

-- a state with more places stands for the same steps
roomy_state : (state : KeyState) (key : KeyParts) (at : ℕ) (history : List Entry) → IsStateOf state key at history → IsStateOf (with_room key.threshold state) key at history
roomy_state state key at history was = record {
  counted = was.counted;
  held = was.held;
  live = was.live;
  ascends = was.ascends;
  some_place = (more (has_room state) (nat_lt state.moments.capacity key.threshold) refl).0;
  places = (more (has_room state) (nat_lt state.moments.capacity key.threshold) refl).1;
  within = (more (has_room state) (nat_lt state.moments.capacity key.threshold) refl).2;
}
  where
    more : (room less : Bool) → nat_lt state.moments.capacity key.threshold ≡ less →
        (1 ≤ cond (not room && less) (min key.threshold (2 * state.moments.capacity)) state.moments.capacity)
        × (cond (not room && less) (min key.threshold (2 * state.moments.capacity)) state.moments.capacity ≤ key.threshold)
        × (length state.moments.items ≤ cond (not room && less) (min key.threshold (2 * state.moments.capacity)) state.moments.capacity)
    more true less e = (was.some_place, was.places, was.within)
    more false false e = (was.some_place, was.places, was.within)
    more false true e =
        let fewer = ltb-true state.moments.capacity key.threshold e in
        (omega (arith, was.some_place, fewer), omega (arith, fewer), omega (arith, was.within, was.some_place, fewer))

-- and takes a further moment
roomy_ready : (state : KeyState) (key : KeyParts) (at : ℕ) (history : List Entry) → IsStateOf state key at history → IsReady (with_room key.threshold state) key.threshold
roomy_ready state key at history was = by (length state.moments.items == state.moments.capacity) refl (nat_lt state.moments.capacity key.threshold) refl
  where
    by : (full : Bool) → (length state.moments.items == state.moments.capacity) ≡ full → (less : Bool) → nat_lt state.moments.capacity key.threshold ≡ less →
        (length state.moments.items < cond (not (not full) && less) (min key.threshold (2 * state.moments.capacity)) state.moments.capacity)
        ⊎ (key.threshold ≤ cond (not (not full) && less) (min key.threshold (2 * state.moments.capacity)) state.moments.capacity)
    by true f true l =
        let fewer = ltb-true state.moments.capacity key.threshold l in
        let same = eqb-true (length state.moments.items) state.moments.capacity f in
        inl (omega (arith, fewer, same, was.some_place))
    by true f false l = inr (at_least (cases_lt state.moments.capacity key.threshold))
      where
        at_least : (state.moments.capacity < key.threshold) ⊎ (key.threshold ≤ state.moments.capacity) → key.threshold ≤ state.moments.capacity
        at_least (inl less) = absurd (true≢false (sym (lt-ltb state.moments.capacity key.threshold less) ∙ l))
        at_least (inr g) = g
    by false f less l = inl (apart (cases_lt (length state.moments.items) state.moments.capacity))
      where
        apart : (length state.moments.items < state.moments.capacity) ⊎ (state.moments.capacity ≤ length state.moments.items) → length state.moments.items < state.moments.capacity
        apart (inl less) = less
        apart (inr g) = absurd (eqb-false (length state.moments.items) state.moments.capacity f (omega (arith, g, was.within)))

-- what is kept stands for the same steps once it is dropped where it is dead
pub live_is_kept : (q : KeyParts) (at : ℕ) (history : List Entry) (s : Option KeyState) → IsKept s q at history → IsKept (live_at at s) q at history
live_is_kept q at history None gone = gone
live_is_kept q at history (Some state) its = on (nat_lt at state.live_until) refl
  where
    on : (b : Bool) → nat_lt at state.live_until ≡ b → IsKept (cond b (Some state) None) q at history
    on true live = its
    on false dead = λ later h. its.live later h ∙ not_lt later state.live_until (early later h (cases_lt at state.live_until))
      where
        early : (later : ℕ) → at ≤ later → (at < state.live_until) ⊎ (state.live_until ≤ at) → state.live_until ≤ later
        early later h (inl l) = absurd (true≢false (sym (lt-ltb at state.live_until l) ∙ dead))
        early later h (inr g) = omega (arith, g, h)

-- what is live stays so
pub live_twice : (at : ℕ) (s : Option KeyState) → live_at at (live_at at s) ≡ live_at at s
live_twice at None = refl
live_twice at (Some state) = on (nat_lt at state.live_until) refl
  where
    on : (b : Bool) → nat_lt at state.live_until ≡ b → live_at at (cond b (Some state) None) ≡ cond b (Some state) None
    on true live = ap (λ b. cond b (Some state) None) live
    on false dead = refl

module _ (entries swept : Entries) (at : ℕ) (kept : (q : KeyParts) → state_of swept q ≡ live_at at (state_of entries q)) where
  -- the dropped keys are dead, so what is left stands for the same steps
  pub swept_keeps : (history : List Entry) → KeepsAll entries at history → KeepsAll swept at history
  swept_keeps history was q = subst (λ s. IsKept s q at history) (sym (kept q)) (live_is_kept q at history (state_of entries q) (was q))

  -- all that is left is live
  pub swept_live : AreLive swept at
  swept_live q = ap (live_at at) (kept q) ∙ live_twice at (state_of entries q) ∙ sym (kept q)

  -- a step of a dead key is taken by those that are left
  pub swept_steps : (after : Entries) (cap : ℕ) (ask : Ask) (answer : Answer) → StepsAll swept after cap ask at answer → TakesStep entries after cap ask at answer
  swept_steps after cap ask answer steps history was = steps history (swept_keeps history was) swept_live

-- a step of a live key, after which the dead ones are dropped
pub live_steps : (before after swept : Entries) (cap : ℕ) (ask : Ask) (at : ℕ) (answer : Answer) → StepsLive before after ask at answer →
    ((q : KeyParts) → state_of swept q ≡ live_at at (state_of after q)) → TakesStep before swept cap ask at answer
live_steps before after swept cap ask at answer stepped kept history was = (told, goes)
  where
    its : IsStateOf stepped.old ask.key at history
    its = subst (λ s. IsKept s ask.key at history) stepped.found (was ask.key)

    room : (adds : Bool) → IsStateOf (cond adds (with_room ask.key.threshold stepped.old) stepped.old) ask.key at history
    room true = roomy_state stepped.old ask.key at history its
    room false = its

    ready : ask.adds ≡ true → IsReady (roomed ask stepped.old) ask.key.threshold
    ready adds = subst (λ b. IsReady (cond b (with_room ask.key.threshold stepped.old) stepped.old) ask.key.threshold) (sym adds) (roomy_ready stepped.old ask.key at history its)

    taken : (answer ≡ answer_within history ask.key ask.adds at) × ((caller asked : ℕ) → IsStateOf stepped.new ask.key at (history ++ entry_at caller asked ask.key at ask.adds answer ∷ []))
    taken = stepped.steps history (room ask.adds) ready

    told : answer ≡ answer_at 1 cap history ask at
    told = taken.0 ∙ sym (answer_live cap history ask at (its.live at (omega arith) ∙ lt-ltb at stepped.old.live_until stepped.live))

    all : (caller : ℕ) → KeepsAll after at (with_step history caller ask at answer)
    all caller = all_stepped before after ask.key stepped.new at history (entry_at caller ask.asked ask.key at ask.adds answer) refl (set_changed before after ask.key stepped.old stepped.new stepped.found stepped.entries) was (taken.1 caller ask.asked)

    goes : (caller : ℕ) → KeepsAll swept at (with_step history caller ask at answer)
    goes caller = swept_keeps after swept at kept (with_step history caller ask at answer) (all caller)
