-- What holds of a lane between its calls.
use Rattle.std.specs.Prelude.{◌≡◌, ◌≤◌, false, cond, List, length, Some, None}
use Rattle.rate_plain.specs.KeyParts.{KeyParts}
use Rattle.rate_plain.specs.Keys.{same_key}
use Rattle.rate_plain.specs.Window.{is_live}
use Rattle.rate_plain.specs.declared.entry.Entry.{Entry}
use Rattle.rate_lane.specs.Index.{state_of}
use Rattle.rate_lane.specs.Lane.{cap_of, IsLaneOf}
use Rattle.rate_lane.specs.declared.key_state.KeyState.{KeyState}
use Rattle.rate_lane.specs.declared.lane.Lane.{Lane}

-- a lane that drops a key which isn't live at its moment, and nothing else, stands for the same list
abbrev pub DroppingKeeps : Type 0
DroppingKeeps = (before after : Lane) (history : List Entry) (dropped : KeyParts) →
    IsLaneOf before history → is_live dropped before.moment history ≡ false → after.moment ≡ before.moment →
    ((key : KeyParts) → state_of after.index.entries key ≡ cond (same_key dropped key) None (state_of before.index.entries key)) →
    IsLaneOf after history

-- a lane keeps no more keys than it has room for
abbrev pub KeepsFewKeys : Type 0
KeepsFewKeys = (lane : Lane) → length lane.index.entries ≤ cap_of lane

-- and of a key no more moments than its threshold, in no more places
abbrev pub KeepsFewMoments : Type 0
KeepsFewMoments = (lane : Lane) (history : List Entry) (key : KeyParts) (state : KeyState) → IsLaneOf lane history →
    state_of lane.index.entries key ≡ Some state →
    (length state.moments.items ≤ state.moments.capacity) × (state.moments.capacity ≤ key.threshold)
