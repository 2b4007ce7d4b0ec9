-- What a seat has between the calls of one step.
use Rattle.std.specs.Prelude.{◌≡◌, ℕ, ◌+◌, ◌^◌, ◌<◌, ◌≤◌, List, [], ◌∷◌, All, length, Option, Some, None}
use Rattle.atomic_table.specs.Seated.{TableId}
use Rattle.atomic_table.specs.declared.shared.Seat.{Seat}
use Rattle.rate_plain.specs.Keys.{lane_of_key}
use Rattle.rate_plain.specs.History.{IsLegal, own_of, entry_of}
use Rattle.rate_plain.specs.declared.entry.Ask.{Ask}
use Rattle.rate_plain.specs.declared.entry.Entry.{Entry}
use Rattle.rate_lane.specs.Lane.{cap_of, IsLaneOf}
use Rattle.rate_lane.specs.declared.lane.Lane.{Lane}
use Rattle.rate_shared.specs.declared.rule.Shape.{Shape}
use Rattle.rate_shared.specs.declared.rule.View.{View}
use Rattle.rate_shared.specs.Rule.{turn_word, lane_slot, knowing}
use Rattle.rate_shared.specs.Steps.{Sat, turned, IsInHand}

abbrev pub Chair : Type 0
Chair = Seat (Option Lane) View

-- there are lanes, room in them, and callers, and not too many
pub record IsShape (shape : Shape) : Type 0 where
  pub lanes : (1 ≤ shape.lanes) × (shape.lanes ≤ 1024)
  pub cap : (1 ≤ shape.cap) × (shape.cap ≤ 65536)
  pub callers : (1 ≤ shape.callers) × (shape.callers ≤ 1024)

-- a lane without steps, in its slot
abbrev pub IsNew : ℕ → Option Lane → Type 0
IsNew cap slot = (x : Lane) × (slot ≡ Some x) × (cap_of x ≡ cap) × IsLaneOf x []

-- the seat is one of this table
abbrev pub SitsAt : TableId → Shape → Chair → Type 0
SitsAt table shape seat = (seat.table_id ≡ table) × (seat.me.0.shape ≡ shape)

-- the seat is one of this table, which has one word more than it has slots
abbrev pub IsAtLanes : TableId → Chair → Type 0
IsAtLanes table seat = (seat.table_id ≡ table) × (table.words ≡ table.slots + 1)

-- the same seat of the same table
abbrev pub IsSameSeat : Chair → Chair → Type 0
IsSameSeat before after = (after.table_id ≡ before.table_id) × (after.id ≡ before.id)

-- the seat of a caller that has no turn, after these entries
abbrev pub resting : Shape → ℕ → List Entry → Sat
resting shape caller seen = (knowing shape caller (caller + 1) seen, [])

abbrev pub seen_of : Sat → List Entry
seen_of me = me.0.known.seen

-- the seat has no turn, and all that it knows is what its caller has seen
pub record IsReady (seat : Chair) (caller taken : ℕ) : Type 0 where
  pub idle : seat.me ≡ resting seat.me.0.shape caller (seen_of seat.me)
  pub legal : IsLegal seat.me.0.shape.lanes seat.me.0.shape.cap (seen_of seat.me)
  pub by_callers : All (λ entry. entry.caller < seat.me.0.shape.callers) (seen_of seat.me)
  pub its : taken ≡ length (own_of (seen_of seat.me) caller)
  pub few : taken ≤ 2 ^ 40
  pub shape : IsShape seat.me.0.shape
  pub number : caller < seat.me.0.shape.callers

-- the slot of the lane is out with the seat, and the lane lies in it
abbrev pub IsOut : ℕ → Sat → Type 0
IsOut lane me = (x : Lane) × (me.1 ≡ (lane_slot lane, Some x) ∷ []) × IsInHand me.0.shape x me.0.mine

-- the turn of the lane was taken, and its slot is out
abbrev pub TookTurn : ℕ → Sat → Sat → Type 0
TookTurn lane before after = IsOut lane after × (after.0 ≡ turned before.0 (turn_word lane) after.0.mine)

-- the entry that the lane in hand gives
abbrev pub next_entry : Sat → ℕ → Ask → Entry
next_entry me caller ask = entry_of 1 me.0.shape.cap me.0.mine caller ask

-- the seat may draw for this caller, on the lane of the ask
pub record MayDraw (me : Sat) (lane caller : ℕ) (ask : Ask) : Type 0 where
  pub some_lane : 0 < me.0.shape.lanes
  pub turn : me.0.turn ≡ turn_word lane
  pub none_kept : me.0.kept ≡ []
  pub of_lane : lane_of_key me.0.shape.lanes ask.key ≡ lane
  pub low : me.0.known.from ≤ caller
  pub high : caller < me.0.known.to
  pub room : length (own_of (seen_of me) caller) < 2 ^ 40

-- the seat of a note has no number and no turn
pub record IsNote (seat : Chair) : Type 0 where
  pub idle : seat.me ≡ (knowing seat.me.0.shape 0 0 (seen_of seat.me), [])

-- the view of a caller that has the turn of a lane
abbrev pub holding : Shape → ℕ → List Entry → ℕ → List Entry → View
holding shape caller seen lane mine = turned (knowing shape caller (caller + 1) seen) (turn_word lane) mine

-- the seat has the turn of the lane, whose slot is out and empty, and the lane stands for its entries
pub record IsHeld (seat : Chair) (caller taken number : ℕ) (lane : Lane) : Type 0 where
  pub view : seat.me.0 ≡ holding seat.me.0.shape caller (seen_of seat.me) number seat.me.0.mine
  pub out : seat.me.1 ≡ (lane_slot number, None) ∷ []
  pub hand : IsInHand seat.me.0.shape lane seat.me.0.mine
  pub legal : IsLegal seat.me.0.shape.lanes seat.me.0.shape.cap (seen_of seat.me)
  pub by_callers : All (λ entry. entry.caller < seat.me.0.shape.callers) (seen_of seat.me)
  pub its : taken ≡ length (own_of (seen_of seat.me) caller)
  pub few : taken ≤ 2 ^ 40
  pub shape : IsShape seat.me.0.shape
  pub by : caller < seat.me.0.shape.callers
  pub below : number < seat.me.0.shape.lanes
