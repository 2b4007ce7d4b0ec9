-- What a lane keeps of a key, and which steps it stands for.
use Rattle.std.specs.Prelude.{◌≡◌, ◌⊎◌, ℕ, ◌+◌, ◌*◌, ◌<◌, ◌≤◌, min, Bool, true, false, cond, not, ◌&&◌, ◌==◌, nat_lt, nat_le, List, [], ◌∷◌, ◌++◌, length, filter}
use Rattle.circular_buffer.specs.Buffer.{buffer}
use Rattle.rate_plain.specs.KeyParts.{KeyParts}
use Rattle.rate_plain.specs.Window.{counted_of, held_until, is_live, held_or}
use Rattle.rate_plain.specs.LiveSteps.{end_above}
use Rattle.rate_plain.specs.declared.entry.Ask.{Ask}
use Rattle.rate_plain.specs.declared.entry.Entry.{Entry}
use Rattle.rate_plain.specs.declared.entry.Answer.{Answer}
use Rattle.rate_plain.specs.declared.entry.Answer.TheVariants.{Pass, Over}
use Rattle.rate_lane.specs.declared.key_state.KeyState.{KeyState}

-- how many of these moments count
abbrev pub counted_among : ℕ → ℕ → List ℕ → ℕ
counted_among period at moments = length (filter (λ moment. nat_lt at (moment + period)) moments)

-- the moments ascend from the one to the other
abbrev pub Ascends : ℕ → List ℕ → ℕ → Type 0
Ascends from [] to = from ≤ to
Ascends from (moment ∷ later) to = (from ≤ moment) × Ascends moment later to

-- the first of these moments doesn't count any more
abbrev pub is_oldest_over : ℕ → ℕ → List ℕ → Bool
is_oldest_over period at [] = false
is_oldest_over period at (moment ∷ later) = nat_le (moment + period) at

-- moments were taken out which don't count from here on, and none such is left
pub record Forgets (period at : ℕ) (before after : List ℕ) : Type 0 where
  pub counted : (later : ℕ) → at ≤ later → counted_among period later after ≡ counted_among period later before
  pub ascends : (to : ℕ) → Ascends 0 before to → Ascends 0 after to
  pub all_count : (to : ℕ) → Ascends 0 before to → counted_among period at after ≡ length after
  pub fewer : length after ≤ length before

-- what is kept of a key of which nothing counts
abbrev pub dead_state : KeyState
dead_state = record { held_until = 0; live_until = 0; moments = buffer [] 1 }

-- the ring has more places than moments
abbrev pub has_room : KeyState → Bool
has_room state = not (length state.moments.items == state.moments.capacity)

-- how many places a ring has once a step has made room
abbrev pub places_of : ℕ → KeyState → ℕ
places_of threshold state =
    cond (not (has_room state) && nat_lt state.moments.capacity threshold) (min threshold (2 * state.moments.capacity)) state.moments.capacity

-- the same state with those places
abbrev pub with_room : ℕ → KeyState → KeyState
with_room threshold state = record {
  held_until = state.held_until;
  live_until = state.live_until;
  moments = buffer state.moments.items (places_of threshold state);
}

-- the state in which a step finds its key: the ring has room where the step adds
abbrev pub roomed : Ask → KeyState → KeyState
roomed ask state = cond ask.adds (with_room ask.key.threshold state) state

-- the state tells, from this moment on, what the steps of the key tell; its moments ascend, and no more fit than the threshold
pub record IsStateOf (state : KeyState) (key : KeyParts) (at : ℕ) (history : List Entry) : Type 0 where
  pub counted : (later : ℕ) → at ≤ later → counted_of key later history ≡ counted_among key.period later state.moments.items
  pub held : (later : ℕ) → at ≤ later → held_until key later history ≡ end_above later (Over state.held_until)
  pub live : (later : ℕ) → at ≤ later → is_live key later history ≡ nat_lt later state.live_until
  pub ascends : Ascends 0 state.moments.items at
  pub some_place : 1 ≤ state.moments.capacity
  pub places : state.moments.capacity ≤ key.threshold
  pub within : length state.moments.items ≤ state.moments.capacity

-- a further moment fits, or there are as many places as the threshold
abbrev pub IsReady : KeyState → ℕ → Type 0
IsReady state threshold = (length state.moments.items < state.moments.capacity) ⊎ (threshold ≤ state.moments.capacity)

-- what a step is told whose key isn't kept out by a full lane
abbrev pub answer_within : List Entry → KeyParts → Bool → ℕ → Answer
answer_within history key adds at =
    held_or (held_until key at history)
    (cond (not adds) Pass
    (cond (counted_of key at history == key.threshold) (Over (at + key.timeout))
    Pass))

-- a step with its answer
abbrev pub entry_at : ℕ → ℕ → KeyParts → ℕ → Bool → Answer → Entry
entry_at caller asked key at adds answer =
    record { caller = caller; key = key; asked = asked; at = at; adds = adds; answer = answer }

-- a step is told by the rule, and the state then stands for the key's steps with that one
abbrev pub StepsKey : KeyState → KeyState → KeyParts → Bool → ℕ → Answer → Type 0
StepsKey before after key adds at answer =
    (history : List Entry) → IsStateOf before key at history → (adds ≡ true → IsReady before key.threshold) →
    (answer ≡ answer_within history key adds at)
    × ((caller asked : ℕ) → IsStateOf after key at (history ++ entry_at caller asked key at adds answer ∷ []))
