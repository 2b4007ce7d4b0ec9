-- What each step on the table tells the seat that makes it.
use Rattle.std.specs.Prelude.{◌≡◌, ℕ, ◌+◌, ◌-◌, ◌<◌, ◌≤◌, false, ◌==◌, List, [], ◌∷◌, ◌++◌, All, length, MatchBool, Option, Some}
use mathlib.Core.List.{IsPrefix}
use Rattle.atomic_table.specs.Table.{Me, Step, rest}
use Rattle.rate_plain.specs.History.{IsLegal, own_of}
use Rattle.rate_plain.specs.declared.entry.Entry.{Entry}
use Rattle.rate_plain.specs.declared.entry.Answer.TheVariants.{Pass}
use Rattle.rate_lane.specs.Lane.{cap_of, IsLaneOf}
use Rattle.rate_lane.specs.declared.lane.Lane.{Lane}
use Rattle.rate_shared.specs.declared.rule.Shape.{Shape}
use Rattle.rate_shared.specs.declared.rule.Known.{Known}
use Rattle.rate_shared.specs.declared.rule.View.{View}
use Rattle.rate_shared.specs.Rule.{turn_word, lane_slot, knowing}

-- a seat's view, and the slots that are out with it
abbrev pub Sat : Type 0
Sat = Me (Option Lane) View

-- a step on the table
abbrev pub At : Type 0
At = Step (Option Lane)

-- a legal history that begins with what was known, and has no further entry of the callers whose numbers are known
pub record Shows (shape : Shape) (history : List Entry) (known : Known) : Type 0 where
  pub seen : IsPrefix known.seen history
  pub legal : IsLegal shape.lanes shape.cap history
  pub own : (k : ℕ) → known.from ≤ k → k < known.to → own_of history k ≡ own_of known.seen k

-- the view with this turn, and the entries of its lane
abbrev pub turned : View → ℕ → List Entry → View
turned v turn mine = record v { turn = turn; mine = mine }

-- the view that has seen this
abbrev pub seeing : View → List Entry → View
seeing v history = record v { known = record v.known { seen = history }; kept = [] }

-- the view that has seen this, with these entries of its lane
abbrev pub going_on : View → List Entry → List Entry → View
going_on v seen mine = record v { known = record v.known { seen = seen }; mine = mine }

-- the view after an entry was drawn behind this history
abbrev pub drawn : View → List Entry → Entry → View
drawn v between entry = going_on v (between ++ entry ∷ []) (v.mine ++ entry ∷ [])

-- a lane with this room stands for these entries
abbrev pub IsInHand : Shape → Lane → List Entry → Type 0
IsInHand shape lane mine = (cap_of lane ≡ shape.cap) × IsLaneOf lane mine

-- the seat has the turn of the lane, whose slot is out with it
abbrev pub TakesLane : ℕ → Sat → Sat → Type 0
TakesLane lane m m' =
    (x : Lane) × (mine : List Entry) × (m' ≡ (turned m.0 (turn_word lane) mine, (lane_slot lane, Some x) ∷ m.1)) × IsInHand m.0.shape x mine

-- where the turn word was 0, the seat has the turn now, and else nothing has changed
abbrev pub Takes : At → Sat → ℕ → Sat → Type 0
Takes st m n m' = MatchBool (n == 0) (TakesLane (st.word - 1) m m') (m' ≡ m)

-- the entry stands behind so many others
abbrev pub Drew : Entry → Sat → ℕ → Sat → Type 0
Drew entry m n m' =
    (between : List Entry) × (m' ≡ (drawn m.0 between entry, m.1)) × Shows m.0.shape between m.0.known × (length between ≡ n)
    × IsLegal m.0.shape.lanes m.0.shape.cap (between ++ entry ∷ [])
    × All (λ e. e.caller < m.0.shape.callers) (between ++ entry ∷ [])

abbrev pub Draws : Entry → At → Sat → ℕ → Sat → Type 0
Draws entry st m n m' = Drew entry m n m'

-- the turn is another's now, and the slot is home
abbrev pub Gives : At → Sat → ℕ → Sat → Type 0
Gives st m n m' = m' ≡ (turned m.0 0 [], rest m.1)

-- the history is seen, and all that was taken in begins it
abbrev pub Saw : Sat → ℕ → Sat → Type 0
Saw m n m' =
    (history : List Entry) × (m' ≡ (seeing m.0 history, m.1)) × Shows m.0.shape history m.0.known
    × All (Shows m.0.shape history) m.0.kept × (length history ≡ n) × All (λ entry. entry.caller < m.0.shape.callers) history

abbrev pub Looks : At → Sat → ℕ → Sat → Type 0
Looks st m n m' = Saw m n m'

-- the view without its first number, and one that has this number alone
abbrev pub without_number : View → View
without_number v = record v { known = record v.known { from = v.known.from + 1 } }

abbrev pub numbered : View → View
numbered v = knowing v.shape v.known.from (v.known.from + 1) v.known.seen

-- the view that has seen the same, and has no number
abbrev pub note_of : View → View
note_of v = knowing v.shape 0 0 v.known.seen

-- the view that keeps what another knew
abbrev pub met : View → View → View
met v w = record v { kept = w.known ∷ v.kept }

-- an entry, where any will do
abbrev pub some_entry : Entry
some_entry = record {
  caller = 0;
  key = record { rule = record { set_id = []; rule = [] }; period = 0; threshold = 0; timeout = 0; values = [] };
  asked = 0;
  at = 0;
  adds = false;
  answer = Pass;
}
