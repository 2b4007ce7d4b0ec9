-- What a step takes before anything changes, and what it leaves of a lane's keys.
use Rattle.std.specs.Prelude.{◌≡◌, ℕ, ◌<◌, ◌≤◌, Bool, true, false, cond, not, ◌&&◌, List, [], ◌∷◌, ◌++◌, Option, Some, None}
use Rattle.std.specs.Map.{set_value}
use Rattle.rate_plain.specs.KeyParts.{KeyParts}
use Rattle.rate_plain.specs.Keys.{same_key}
use Rattle.rate_plain.specs.Window.{answer_at}
use Rattle.rate_plain.specs.declared.entry.Ask.{Ask}
use Rattle.rate_plain.specs.declared.entry.Answer.{Answer}
use Rattle.rate_plain.specs.declared.entry.Entry.{Entry}
use Rattle.rate_lane.specs.KeyState.{dead_state, has_room, places_of, roomed, entry_at, StepsKey}
use Rattle.rate_lane.specs.Index.{Entries, state_of, live_at, KeepsAll}
use Rattle.rate_lane.specs.declared.key_state.KeyState.{KeyState}

-- a state is kept, and its ring has room
abbrev pub is_roomy : Option KeyState → Bool
is_roomy None = false
is_roomy (Some state) = has_room state

-- the step may need memory: it adds, and its key isn't live with room
abbrev pub needs_memory : Entries → Ask → ℕ → Bool
needs_memory entries ask at = ask.adds && not (is_roomy (live_at at (state_of entries ask.key)))

-- the state of the asked key, which is live, has taken the step
pub record StepsLive (before after : Entries) (ask : Ask) (at : ℕ) (answer : Answer) : Type 0 where
  pub old : KeyState
  pub new : KeyState
  pub found : state_of before ask.key ≡ Some old
  pub live : at < old.live_until
  pub entries : after ≡ set_value (same_key ask.key) before new
  pub steps : StepsKey (roomed ask old) new ask.key ask.adds at answer
  pub longer : old.live_until ≤ new.live_until
  pub places : new.moments.capacity ≡ (roomed ask old).moments.capacity

-- the key has been added, with the state that its first step leaves
pub record AddsState (before after : Entries) (key : KeyParts) (at : ℕ) (answer : Answer) : Type 0 where
  pub new : KeyState
  pub entries : after ≡ before ++ (key, new) ∷ []
  pub steps : StepsKey dead_state new key true at answer
  pub places : new.moments.capacity ≡ 1

-- all keys that are kept are live
abbrev pub AreLive : Entries → ℕ → Type 0
AreLive entries at = (key : KeyParts) → live_at at (state_of entries key) ≡ state_of entries key

-- the list with one step more
abbrev pub with_step : List Entry → ℕ → Ask → ℕ → Answer → List Entry
with_step history caller ask at answer = history ++ entry_at caller ask.asked ask.key at ask.adds answer ∷ []

-- where all kept keys are live, a step is told by the rule, and what is kept then tells what all steps with that one tell
abbrev pub StepsAll : Entries → Entries → ℕ → Ask → ℕ → Answer → Type 0
StepsAll before after cap ask at answer =
    (history : List Entry) → KeepsAll before at history → AreLive before at →
    (answer ≡ answer_at 1 cap history ask at) × ((caller : ℕ) → KeepsAll after at (with_step history caller ask at answer))

-- a step of a lane with so much room is told by the rule, and what is kept then tells what all steps with that one tell
abbrev pub TakesStep : Entries → Entries → ℕ → Ask → ℕ → Answer → Type 0
TakesStep before after cap ask at answer =
    (history : List Entry) → KeepsAll before at history →
    (answer ≡ answer_at 1 cap history ask at) × ((caller : ℕ) → KeepsAll after at (with_step history caller ask at answer))

-- how many places the ring of a key has, which begins with one
abbrev pub places_in : Option KeyState → ℕ
places_in None = 1
places_in (Some state) = state.moments.capacity

-- how many it has once a step has made room
abbrev pub grown_in : ℕ → Option KeyState → ℕ
grown_in threshold None = 1
grown_in threshold (Some state) = places_of threshold state

-- the ring of each key that is kept has as many places as before, or one where the key wasn't kept
abbrev pub KeepsRings : Entries → Entries → Type 0
KeepsRings before after = (key : KeyParts) (state : KeyState) → state_of after key ≡ Some state →
    state.moments.capacity ≡ places_in (state_of before key)

-- so it has, but that the ring of the asked key has made room where the step adds; a dead key wasn't kept
abbrev pub GrowsRings : Entries → Entries → Ask → ℕ → Type 0
GrowsRings before after ask at = (key : KeyParts) (state : KeyState) → state_of after key ≡ Some state →
    state.moments.capacity ≡ cond (ask.adds && same_key ask.key key)
    (grown_in key.threshold (live_at at (state_of before key)))
    (places_in (live_at at (state_of before key)))
