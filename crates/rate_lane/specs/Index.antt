-- The keys of a lane with their states, and the numbers beside their places.
use Rattle.std.specs.Prelude.{◌≡◌, ℕ, ◌^◌, ◌<◌, ◌≤◌, false, cond, nat_lt, nat_le, List, length, sum_by, slice_index_or, Option, Some, None}
use Rattle.std.specs.List.{count_by}
use Rattle.std.specs.Map.{lookup}
use Rattle.rate_plain.specs.KeyParts.{KeyParts}
use Rattle.rate_plain.specs.Keys.{same_key}
use Rattle.rate_plain.specs.Window.{is_live}
use Rattle.rate_plain.specs.declared.entry.Entry.{Entry}
use Rattle.rate_lane.specs.KeyState.{IsStateOf}
use Rattle.rate_lane.specs.declared.key_state.KeyState.{KeyState}

-- the keys and their states, by places
abbrev pub Entries : Type 0
Entries = List (KeyParts × KeyState)

-- the state of a key
abbrev pub state_of : Entries → KeyParts → Option KeyState
state_of entries key = lookup (same_key key) entries

-- beside the place of a key stands a moment at which it is not dead yet or, at the latest, the one at which it dies;
-- beside a free place stands one that never comes
pub record IsOrdered (entries : Entries) (order : List ℕ) : Type 0 where
  pub within : length entries ≤ length order
  pub early : (place : ℕ) (d : KeyParts × KeyState) → place < length entries →
      slice_index_or order place 0 ≤ (slice_index_or entries place d).1.live_until
  pub free : (place : ℕ) → length entries ≤ place → place < length order → 2 ^ 53 < slice_index_or order place 0

-- how many of these numbers are at most this one
abbrev pub low_count : ℕ → List ℕ → ℕ
low_count most order = sum_by (λ number. cond (nat_le number most) 1 0) order

-- a state, where its key is live
abbrev pub live_at : ℕ → Option KeyState → Option KeyState
live_at at None = None
live_at at (Some state) = cond (nat_lt at state.live_until) (Some state) None

-- the same keys are live at the moment, in the same states
abbrev pub AreLiveAlike : ℕ → Entries → Entries → Type 0
AreLiveAlike at before after = (key : KeyParts) → live_at at (state_of after key) ≡ live_at at (state_of before key)

-- how many of the keys are live
abbrev pub live_among : ℕ → Entries → ℕ
live_among at entries = count_by (λ entry. nat_lt at entry.1.live_until) entries

-- what is kept of a key tells what its steps tell, and what isn't kept is dead
abbrev pub IsKept : Option KeyState → KeyParts → ℕ → List Entry → Type 0
IsKept None key at history = (later : ℕ) → at ≤ later → is_live key later history ≡ false
IsKept (Some state) key at history = IsStateOf state key at history

-- so it is for each key
abbrev pub KeepsAll : Entries → ℕ → List Entry → Type 0
KeepsAll entries at history = (key : KeyParts) → IsKept (state_of entries key) key at history
