-- Several lanes, and the lists of steps that they stand for.
use Rattle.std.specs.Prelude.{◌≡◌, ℕ, ◌<◌, List, length, slice_index_or}
use Rattle.rate_plain.specs.Window.{entries_in}
use Rattle.rate_plain.specs.declared.entry.Entry.{Entry}
use Rattle.rate_lane.specs.Lane.{cap_of, IsLaneOf}
use Rattle.rate_lane.specs.declared.lane.Lane.{Lane}
use Rattle.rate_lane.specs.declared.lanes.Lanes.{Lanes}

-- a lane with this room stands for the entries of its place, of so many places
pub record IsLaneAt (lane : Lane) (count cap : ℕ) (history : List Entry) (place : ℕ) : Type 0 where
  pub room : cap_of lane ≡ cap
  pub own : IsLaneOf lane (entries_in count place history)

-- there are so many lanes, each with this room and of its own entries, and so many steps were taken as the list has
pub record AreLanesOf (all : Lanes) (count cap : ℕ) (history : List Entry) : Type 0 where
  pub lanes : length all.lanes.items ≡ count
  pub each : (place : ℕ) (d : Lane) → place < count → IsLaneAt (slice_index_or all.lanes.items place d) count cap history place
  pub steps : all.steps ≡ length history
