-- What holds of the window rule and of every legal history.
use Rattle.std.specs.Prelude.{◌≡◌, ℕ, ◌<◌, ◌≤◌, ◌^◌, ◌≢◌, ◌↔◌, true, false, not, List, [], ◌∷◌, ◌++◌, All, filter, take}
use Rattle.rate_plain.specs.KeyParts.{KeyParts}
use Rattle.rate_plain.specs.Keys.{same_key, lane_of_key, key_bytes}
use Rattle.rate_plain.specs.Window.{entries_in, moment_of, answer_at, answer_of, counted_of, is_live, live_count}
use Rattle.rate_plain.specs.History.{Follows, IsLegal, AreOneLane, AreAlike}
use Rattle.rate_plain.specs.declared.entry.Ask.{Ask}
use Rattle.rate_plain.specs.declared.entry.Entry.{Entry}

-- the ids hold no byte 0, as no id of letters, digits, `_` and `-` does, and each number has eight bytes
pub record HasPlainIds (key : KeyParts) : Type 0 where
  pub set_id : All (λ byte. byte ≢ 0) key.rule.set_id
  pub rule : All (λ byte. byte ≢ 0) key.rule.rule
  pub period : key.period < 2 ^ 64
  pub threshold : key.threshold < 2 ^ 64
  pub timeout : key.timeout < 2 ^ 64

-- different keys have different bytes
abbrev pub KeysAreApart : Type 0
KeysAreApart = (a b : KeyParts) → HasPlainIds a → HasPlainIds b → key_bytes a ≡ key_bytes b → a ≡ b

-- the test on keys is true exactly of equal ones
abbrev pub KeysAreTold : Type 0
KeysAreTold = (a b : KeyParts) → (same_key a b ≡ true) ↔ (a ≡ b)

-- a step's moment depends only on the entries of its key's lane
abbrev pub LaneGivesMoment : Type 0
LaneGivesMoment = (lanes : ℕ) (history : List Entry) (key : KeyParts) (asked : ℕ) →
    moment_of lanes (entries_in lanes (lane_of_key lanes key) history) key asked ≡ moment_of lanes history key asked

-- and so does its answer
abbrev pub LaneGivesAnswer : Type 0
LaneGivesAnswer = (lanes cap : ℕ) (history : List Entry) (ask : Ask) →
    answer_of lanes cap (entries_in lanes (lane_of_key lanes ask.key) history) ask ≡ answer_of lanes cap history ask

-- where all entries are of the key's lane, its moment is the same at any number of lanes
abbrev pub OneLaneGivesMoment : Type 0
OneLaneGivesMoment = (lanes other : ℕ) (history : List Entry) (key : KeyParts) (asked : ℕ) →
    AreOneLane lanes key history → AreOneLane other key history →
    moment_of lanes history key asked ≡ moment_of other history key asked

-- and so is the answer
abbrev pub OneLaneGivesAnswer : Type 0
OneLaneGivesAnswer = (lanes other cap : ℕ) (history : List Entry) (ask : Ask) →
    AreOneLane lanes ask.key history → AreOneLane other ask.key history →
    answer_of lanes cap history ask ≡ answer_of other cap history ask

-- a lane taken by itself, as the only one, gives the moment of the whole
abbrev pub LaneStandsAloneInMoment : Type 0
LaneStandsAloneInMoment = (lanes : ℕ) (history : List Entry) (key : KeyParts) (asked : ℕ) →
    moment_of 1 (entries_in lanes (lane_of_key lanes key) history) key asked ≡ moment_of lanes history key asked

-- and the answer of the whole
abbrev pub LaneStandsAlone : Type 0
LaneStandsAlone = (lanes cap : ℕ) (history : List Entry) (ask : Ask) →
    answer_of 1 cap (entries_in lanes (lane_of_key lanes ask.key) history) ask ≡ answer_of lanes cap history ask

-- where lists differ in callers alone, a step's moment is the same
abbrev pub AnyCallersGiveMoment : Type 0
AnyCallersGiveMoment = (lanes : ℕ) (a b : List Entry) (key : KeyParts) (asked : ℕ) →
    AreAlike a b → moment_of lanes a key asked ≡ moment_of lanes b key asked

-- and so is its answer
abbrev pub AnyCallersGiveAnswer : Type 0
AnyCallersGiveAnswer = (lanes cap : ℕ) (a b : List Entry) (ask : Ask) →
    AreAlike a b → answer_of lanes cap a ask ≡ answer_of lanes cap b ask

-- a key that isn't live at a moment isn't so at any later one, unless it takes a further step
abbrev pub DeadStayDead : Type 0
DeadStayDead = (key : KeyParts) (sooner at : ℕ) (history : List Entry) → sooner ≤ at →
    is_live key sooner history ≡ false → is_live key at history ≡ false

-- the entries but those of a key
abbrev pub without_key : KeyParts → List Entry → List Entry
without_key key history = filter (λ entry. not (same_key key entry.key)) history

-- the entries of a key that isn't live decide no answer from that moment on, whatever steps come between
abbrev pub DeadKeysGiveNoAnswer : Type 0
DeadKeysGiveNoAnswer = (lanes cap : ℕ) (history later : List Entry) (key : KeyParts) (sooner at : ℕ) (ask : Ask) →
    is_live key sooner history ≡ false → sooner ≤ at →
    answer_at lanes cap (without_key key history ++ later) ask at ≡ answer_at lanes cap (history ++ later) ask at

-- no step is legal, one more that follows keeps a history legal, and so does leaving off its end
pub record LegalStepByStep : Type 0 where
  pub none : (lanes cap : ℕ) → IsLegal lanes cap []
  pub more : (lanes cap : ℕ) (history : List Entry) (entry : Entry) → IsLegal lanes cap history →
      Follows lanes cap history entry → IsLegal lanes cap (history ++ entry ∷ [])
  pub front : (lanes cap : ℕ) (history : List Entry) (n : ℕ) → IsLegal lanes cap history →
      IsLegal lanes cap (take n history)

-- on a legal history no more of a key counts at a further step's moment than its threshold
abbrev pub CountedStaysWithin : Type 0
CountedStaysWithin = (lanes cap : ℕ) (history : List Entry) → IsLegal lanes cap history →
    (key : KeyParts) (asked : ℕ) →
    counted_of key (moment_of lanes history key asked) history ≤ key.threshold

-- and no more keys of a lane are live than it has room for
abbrev pub LiveStaysWithin : Type 0
LiveStaysWithin = (lanes cap : ℕ) (history : List Entry) → IsLegal lanes cap history →
    (key : KeyParts) (asked : ℕ) →
    live_count lanes (lane_of_key lanes key) (moment_of lanes history key asked) history ≤ cap
