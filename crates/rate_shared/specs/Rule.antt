-- The rule of the table that all callers share: what holds between any two steps.
use Rattle.std.specs.Prelude.{◌≡◌, ℕ, ◌+◌, ◌^◌, ◌<◌, ◌≤◌, List, [], ◌∷◌, All, length, slice_index, Option, Some}
use mathlib.Core.Option as maybe
use mathlib.Core.Option.{some}
use mathlib.Core.List.{IsPrefix}
use lib.ListN.{get_elem?}
use Rattle.atomic_table.specs.Table.{State}
use Rattle.rate_plain.specs.Window.{entries_in}
use Rattle.rate_plain.specs.History.{IsLegal, own_of}
use Rattle.rate_plain.specs.declared.entry.Entry.{Entry}
use Rattle.rate_lane.specs.Lanes.{IsLaneAt}
use Rattle.rate_lane.specs.declared.lane.Lane.{Lane}
use Rattle.rate_shared.specs.declared.rule.Shape.{Shape}
use Rattle.rate_shared.specs.declared.rule.Known.{Known}
use Rattle.rate_shared.specs.declared.rule.View.{View}

-- the word that has the history's length
abbrev pub history_word : ℕ
history_word = 0

-- the word that is 1 while somebody has the turn of a lane
abbrev pub turn_word : ℕ → ℕ
turn_word lane = lane + 1

-- the slot of a lane
abbrev pub lane_slot : ℕ → ℕ
lane_slot lane = lane

-- the view that has seen this, has these numbers, and no turn
abbrev pub knowing : Shape → ℕ → ℕ → List Entry → View
knowing shape from to seen = record {
  shape = shape;
  known = record { from = from; to = to; seen = seen };
  turn = 0;
  mine = [];
  kept = [];
}

-- the view of the first seat, which has the numbers of all callers
abbrev pub maker : Shape → View
maker shape = knowing shape 0 shape.callers []

-- the view of a seat that another took in
abbrev pub nobody : View
nobody = knowing (record { lanes = 0; cap = 0; callers = 0 }) 0 0 []

-- a seat has seen a beginning of the history, and all entries of the callers whose numbers it alone has
pub record IsKnown (shape : Shape) (owner : ℕ → ℕ) (seat : ℕ) (history : List Entry) (known : Known) : Type 0 where
  pub seen : IsPrefix known.seen history
  pub owned : (k : ℕ) → known.from ≤ k → k < known.to → (owner k ≡ seat) × (own_of history k ≡ own_of known.seen k)
  pub within : known.to ≤ shape.callers

-- a seat alone has the turn of a lane, and knows its entries
pub record HasTurn (shape : Shape) (words : List ℕ) (holder : ℕ → ℕ) (seat : ℕ) (history mine : List Entry) (lane : ℕ) : Type 0 where
  pub within : lane < shape.lanes
  pub taken : slice_index words (turn_word lane) ≡ 1
  pub held : holder lane ≡ seat
  pub list : mine ≡ entries_in shape.lanes lane history

-- what the view of a seat says is so; the view of a spent seat has no lanes, and says nothing
pub record Knows (shape : Shape) (words : List ℕ) (holder owner : ℕ → ℕ) (history : List Entry) (seat : ℕ) (v : View) : Type 0 where
  pub shape_is : 0 < v.shape.lanes → v.shape ≡ shape
  pub known : IsKnown shape owner seat history v.known
  pub kept : All (IsKnown shape owner seat history) v.kept
  pub turn : (lane : ℕ) → v.turn ≡ turn_word lane → HasTurn shape words holder seat history v.mine lane

-- a lane lies in its slot, and stands for its entries of the history
abbrev pub IsHome : Shape → List (maybe.Option (Option Lane)) → List Entry → ℕ → Type 0
IsHome shape homes history lane =
    (x : Lane) × (get_elem? homes (lane_slot lane) ≡ some (some (Some x))) × IsLaneAt x shape.lanes shape.cap history lane

-- there is one history, which is legal, whose length is the history word, and of which all seats know beginnings;
-- each lane whose turn is free is at home
pub record IsKept (shape : Shape) (s : State (Option Lane) View) : Type 0 where
  pub history : List Entry
  pub holder : ℕ → ℕ
  pub owner : ℕ → ℕ
  pub wide : length s.words ≡ shape.lanes + 1
  pub deep : length s.homes ≡ shape.lanes
  pub callers : shape.callers ≤ 1024
  pub long : slice_index s.words history_word ≡ length history
  pub legal : IsLegal shape.lanes shape.cap history
  pub by_callers : All (λ entry. entry.caller < shape.callers) history
  pub room : (k : ℕ) → length (own_of history k) ≤ 2 ^ 40
  pub home : (lane : ℕ) → lane < shape.lanes → slice_index s.words (turn_word lane) ≡ 0 → IsHome shape s.homes history lane
  pub each : (seat : ℕ) (v : View) → get_elem? s.views seat ≡ some v → Knows shape s.words holder owner history seat v
