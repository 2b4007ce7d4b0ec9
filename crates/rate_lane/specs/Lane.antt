-- A lane, and the lists of steps that it stands for.
use Rattle.std.specs.Prelude.{◌≡◌, ◌⊎◌, ℕ, max, Bool, true, false, List, [], ◌∷◌, ◌++◌, length, IsOk, MatchResult}
use Rattle.std.specs.declared.result.Result.{Result}
use Rattle.edge_base.specs.declared.refusal.Memory.{Memory}
use Rattle.rate_plain.specs.KeyParts.{KeyParts}
use Rattle.rate_plain.specs.Window.{latest_of, moment_of, is_live, live_count, answer_of}
use Rattle.rate_plain.specs.History.{entry_of}
use Rattle.rate_plain.specs.declared.entry.Ask.{Ask}
use Rattle.rate_plain.specs.declared.entry.Answer.{Answer}
use Rattle.rate_plain.specs.declared.entry.Entry.{Entry}
use Rattle.rate_lane.specs.Index.{state_of, KeepsAll}
use Rattle.rate_lane.specs.Stepping.{is_roomy, GrowsRings}
use Rattle.rate_lane.specs.declared.lane.Lane.{Lane}

-- how many live keys a lane has room for
abbrev pub cap_of : Lane → ℕ
cap_of lane = length lane.order

-- its moment is the latest of the list, and what it keeps tells all that counts of it
pub record IsLaneOf (lane : Lane) (history : List Entry) : Type 0 where
  pub moment : lane.moment ≡ latest_of 0 history
  pub keeps : KeepsAll lane.index.entries lane.moment history

-- a step is told by the rule over the whole list, which has one entry more then, whoever took it; after a refusal the list is the same
abbrev pub StepsLane : Lane → Lane → Ask → Result Answer Memory → Type 0
StepsLane before after ask result =
    (history : List Entry) → IsLaneOf before history →
    MatchResult result
    (λ answer. (answer ≡ answer_of 1 (cap_of before) history ask)
    × ((caller : ℕ) → IsLaneOf after (history ++ entry_of 1 (cap_of before) history caller ask ∷ [])))
    (λ _. IsLaneOf after history)

-- nothing was moved or dropped
abbrev pub IsSame : Lane → Lane → Type 0
IsSame before after =
    (after.moment ≡ before.moment) × (after.index.entries ≡ before.index.entries) × (after.order ≡ before.order)

-- the lane keeps the key, and its ring has more places than moments
abbrev pub has_room_for : Lane → KeyParts → Bool
has_room_for lane key = is_roomy (state_of lane.index.entries key)

-- each ring that is kept has the places that it had, or one if it is new; the asked key's has twice as many or its
-- threshold's number, whichever is less, where the step adds and found it full
abbrev pub GrowsAsFull : Lane → Lane → Ask → Type 0
GrowsAsFull before after ask =
    GrowsRings before.index.entries after.index.entries ask (max before.moment ask.asked)

-- a step that doesn't add, or whose key is live with room, isn't refused
abbrev pub SparesMemory : Lane → Ask → Result Answer Memory → Type 0
SparesMemory lane ask result =
    (history : List Entry) → IsLaneOf lane history →
    (ask.adds ≡ false)
    ⊎ ((is_live ask.key (moment_of 1 history ask.key ask.asked) history ≡ true) × (has_room_for lane ask.key ≡ true)) →
    IsOk result

-- so many keys are live at the later of a moment and the lane's own
abbrev pub CountsLive : Lane → ℕ → ℕ → Type 0
CountsLive lane at result =
    (history : List Entry) → IsLaneOf lane history → result ≡ live_count 1 0 (latest_of at history) history
