-- What a world in the code stands for, and each of its callers.
use Rattle.std.specs.Prelude.{◌≡◌, ℕ, Bool, true, false, List, [], ◌∷◌, Option, None, Some, slice_get, slice_set}
use Rattle.std.specs.Arc.{arc_value}
use Rattle.serde_json.specs.Data.{Data}
use Rattle.rate_plain.specs.Step.{Standing}
use Rattle.rate_plain.specs.declared.fault.StepFault.{StepFault}
use Rattle.rate_plain.specs.declared.entry.Answer.{Answer}
use Rattle.rate_plain.specs.declared.entry.Ask.{Ask}
use Rattle.ruleset_model.specs.ConfigParts.{ConfigParts}
use Rattle.version_store.specs.Notices.{IsVersion}
use Rattle.judge_core.specs.Backing.{BackCourse, TellsBack}
use Rattle.judge_core.specs.Stands.{Course, Tells, judgement_of}
use Rattle.judge_core.specs.Values.{Listed}
use Rattle.judge_core.specs.declared.backing.BackTurn.{BackTurn}
use Rattle.judge_core.specs.declared.backing.BackTurn.TheVariants as back_turn
use Rattle.judge_core.specs.declared.judging.Turn.{Turn}
use Rattle.judge_core.specs.declared.judging.Turn.TheVariants as turn
use Rattle.edge_core.specs.declared.caller.Caller.{Caller}
use Rattle.edge_core.specs.declared.caller.Caller.TheVariants as caller
use Rattle.edge_core.specs.declared.event.Event.{Event}
use Rattle.edge_core.specs.declared.event.Shown.{Shown}
use Rattle.edge_core.specs.declared.event.Shown.TheVariants as shown
use Rattle.edge_core.specs.declared.world.World.{World}
use Rattle.edge_core.specs.World.{CallerParts, WorldParts, Terms}
use Rattle.edge_core.specs.World as here
use Rattle.edge_core.specs.Steps.{Outcome, Move, IsStep, IsLeft, IsDeployed, answered}

-- a judging under way tells its next turn: the step that it asks, or what was judged
abbrev pub IsCaller : (ConfigParts → Listed) → Caller → CallerParts → Type 0
IsCaller meaning caller.Idle here.Idle = Unit {0}
IsCaller meaning (caller.Came request) (here.Came other) = request ≡ other
IsCaller meaning (caller.Judging judge turn) (here.UnderWay course) = Tells (meaning course.config) course judge turn
IsCaller meaning (caller.Judged judged) (here.Judged config judgement) =
    (arc_value judged.config ≡ config) × (judgement_of judged ≡ judgement)
IsCaller meaning (caller.Backing back turn) (here.Backing course) = TellsBack (meaning course.config) course back turn
IsCaller meaning one other = ⊥

-- callers, one by one
abbrev pub AreCallers : (ConfigParts → Listed) → List Caller → List CallerParts → Type 0
AreCallers meaning [] [] = Unit {0}
AreCallers meaning [] (other ∷ others) = ⊥
AreCallers meaning (one ∷ ones) [] = ⊥
AreCallers meaning (one ∷ ones) (other ∷ others) = IsCaller meaning one other × AreCallers meaning ones others

-- the world's counter stands for the history, its version is that of the published list, and its callers are these
pub record IsWorld {T : Type 0} (stands : T → Standing) (terms : Terms) (world : World T) (parts : WorldParts) : Type 0 where
  pub tally : stands world.tally terms.lanes terms.cap parts.history
  pub version : IsVersion parts.published world.version.number false (arc_value world.version.config)
  pub callers : AreCallers terms.meaning world.callers.items parts.callers

-- by what is judged and counted, with this many lanes and this room
abbrev pub terms_of : (ConfigParts → Listed) → ℕ → ℕ → Terms
terms_of meaning lanes cap = record { meaning = meaning; lanes = lanes; cap = cap }

-- the world stands for one
abbrev pub IsSomewhere : {T : Type 0} → (T → Standing) → (ConfigParts → Listed) → World T → Type 0
IsSomewhere stands meaning world = (lanes cap : ℕ) × (parts : WorldParts) × IsWorld stands (terms_of meaning lanes cap) world parts

-- this holds of all that the world stands for
abbrev pub Wherever : {T : Type 0} → (T → Standing) → (ConfigParts → Listed) → World T → (Terms → WorldParts → Type 0) → Type 0
Wherever stands meaning world Holds =
    (lanes cap : ℕ) (parts : WorldParts) → IsWorld stands (terms_of meaning lanes cap) world parts
    → Holds (terms_of meaning lanes cap) parts

-- the world stands for the outcome, and this is shown
pub record IsOutcome {T : Type 0} (stands : T → Standing) (terms : Terms) (world : World T) (what : Shown) (outcome : Outcome) : Type 0 where
  pub world_is : IsWorld stands terms world outcome.world
  pub shown_is : what ≡ outcome.shown

-- the event has come to what the definition says
abbrev pub StepsTo : {T : Type 0} → (T → Standing) → Event → World T → Shown → Terms → WorldParts → Type 0
StepsTo stands happened next what terms parts =
    (outcome : Outcome) × IsStep terms parts happened outcome × IsOutcome stands terms next what outcome

-- the event has ended in a fault, and what is left is what the definition says
abbrev pub LeavesAt : {T : Type 0} → (T → Standing) → Event → World T → StepFault → Terms → WorldParts → Type 0
LeavesAt stands happened next why terms parts =
    (left : WorldParts) × IsLeft terms parts happened why left × IsWorld stands terms next left

-- a deployment that was refused, which is no fault
abbrev pub IsTurnedDown : Shown → Type 0
IsTurnedDown (shown.Refused place cause) = Unit {0}
IsTurnedDown other = ⊥

-- ---- inside a step; no public clause cites these words
-- a deployment has come to what the definition says
abbrev pub DeploysTo : {T : Type 0} → (T → Standing) → Data → World T → Shown → Terms → WorldParts → Type 0
DeploysTo stands value next what terms parts =
    (outcome : Outcome) × IsDeployed value parts outcome.world outcome.shown × IsOutcome stands terms next what outcome

-- what was made of a caller is what the definition says
pub record IsMoved (meaning : ConfigParts → Listed) (made : Caller × Shown) (move : Move) : Type 0 where
  pub state : IsCaller meaning made.0 move.state
  pub shown_is : made.1 ≡ move.shown

-- whatever the caller stood for, the event makes this of it
abbrev pub MovesBy : (ConfigParts → Listed) → (CallerParts → Move) → Caller → Caller × Shown → Type 0
MovesBy meaning event one made = (parts : CallerParts) → IsCaller meaning one parts → IsMoved meaning made (event parts)

-- the step that a caller asks, by its next turn
abbrev pub asked_in_turn : Turn → Option Ask
asked_in_turn (turn.Count ask) = Some ask
asked_in_turn (turn.Done judged) = None

abbrev pub asked_in_back : BackTurn → Option Ask
asked_in_back (back_turn.Count ask) = Some ask
asked_in_back (back_turn.Done reply) = None

abbrev pub asked_now : Caller → Option Ask
asked_now (caller.Judging judge next) = asked_in_turn next
asked_now (caller.Backing back next) = asked_in_back next
asked_now caller.Idle = None
asked_now (caller.Came request) = None
asked_now (caller.Judged judged) = None

-- it stands for something, and asks a step
abbrev pub HasAsked : (ConfigParts → Listed) → Caller → Type 0
HasAsked meaning one = (ask : Ask) × (parts : CallerParts) × (asked_now one ≡ Some ask) × IsCaller meaning one parts

-- whatever the caller stood for, it takes the answer
abbrev pub TakesAnswer : (ConfigParts → Listed) → Answer → Caller → Caller → Type 0
TakesAnswer meaning answer one next = (parts : CallerParts) → IsCaller meaning one parts → IsCaller meaning next (answered answer parts)

-- a caller that is there has taken the answer, and no other has changed
abbrev pub IsAnswered : (ConfigParts → Listed) → Answer → ℕ → List Caller → List Caller → Type 0
IsAnswered meaning answer caller before after =
    (state next : Caller) × (slice_get before caller ≡ Some state) × TakesAnswer meaning answer state next
    × (after ≡ slice_set before caller next)
