-- What an event comes to, by cases: the world after it, and what it shows.
use Rattle.std.specs.Prelude.{◌≡◌, ◌⊎◌, ℕ, ◌-◌, ◌^◌, List, [], ◌∷◌, ◌++◌, length, Option, None, Some, Err, slice_get, slice_set}
use Rattle.std.specs.Option.{unwrap_or}
use Rattle.serde_json.specs.Data.{Data}
use Rattle.serde_json.specs.View.{view}
use Rattle.edge_base.specs.declared.message.Reply.{Reply}
use Rattle.edge_base.specs.declared.message.Request.{Request}
use Rattle.rate_plain.specs.History.{entry_of}
use Rattle.rate_plain.specs.Window.{answer_of}
use Rattle.rate_plain.specs.declared.entry.Answer.{Answer}
use Rattle.rate_plain.specs.declared.entry.Ask.{Ask}
use Rattle.rate_plain.specs.declared.fault.StepFault.{StepFault}
use Rattle.rate_plain.specs.declared.fault.StepFault.TheVariants as fault
use Rattle.ruleset_model.specs.ConfigParts.{ConfigParts}
use Rattle.ruleset_model.specs.declared.verdict.VerdictKind.{VerdictKind}
use Rattle.ruleset_model.specs.declared.verdict.VerdictKind.TheVariants as kind
use Rattle.config_read.specs.Answered.{StandsFor}
use Rattle.config_read.specs.Reads.{Reads}
use Rattle.config_read.specs.declared.fault.ConfigFault.TheVariants as refusal
use Rattle.version_store.specs.Notices.{puts_of, last_put}
use Rattle.version_store.specs.declared.notice.Notice.{Notice}
use Rattle.version_store.specs.declared.notice.Notice.TheVariants.{Put}
use Rattle.judge_core.specs.Backing.{BackCourse, back_more}
use Rattle.judge_core.specs.Judging.{Judgement, judge, judge_reply}
use Rattle.judge_core.specs.Stands.{Course, told_more}
use Rattle.judge_core.specs.Talk.{Stand, Counts, Done, Overtold}
use Rattle.judge_core.specs.Values.{Listed}
use Rattle.edge_core.specs.declared.event.Event.{Event}
use Rattle.edge_core.specs.declared.event.Event.TheVariants as event
use Rattle.edge_core.specs.declared.event.Shown.{Shown}
use Rattle.edge_core.specs.declared.event.Shown.TheVariants as shown
use Rattle.edge_core.specs.World.{CallerParts, Idle, Came, UnderWay, Judged, Backing, WorldParts, Terms, empty_config}

-- ---- the version in force
-- the number of a published list, which its opening configuration begins at 0
abbrev pub number_of : List Notice → ℕ
number_of published = puts_of published - 1

-- the configuration that was put last
abbrev pub config_of : List Notice → ConfigParts
config_of published = unwrap_or (last_put None published) empty_config

-- ---- one caller
-- what an event makes of a caller, and what it shows
pub record Move : Type 0 where
  pub state : CallerParts
  pub shown : Shown

-- the event doesn't fit: the caller stays
abbrev pub stays : CallerParts → Move
stays state = record { state = state; shown = shown.Unfit }

-- a request comes where none is under way
abbrev pub arriving : Request → CallerParts → Move
arriving request Idle = record { state = Came request; shown = shown.Nothing }
arriving request (Judged config judged) = record { state = Came request; shown = shown.Nothing }
arriving request other = stays other

-- a version is picked for a request that has come
abbrev pub picking : ℕ → ConfigParts → CallerParts → Move
picking number config (Came request) = record {
  state = UnderWay (record { number = number; config = config; request = request; answers = [] });
  shown = shown.Picked number;
}
picking number config other = stays other

-- what is judged of a request, and of a reply, by the answers so far
abbrev pub judged_so : (ConfigParts → Listed) → Course → Stand Judgement
judged_so meaning course = judge (meaning course.config) course.config course.request course.answers

abbrev pub replied_so : (ConfigParts → Listed) → BackCourse → Stand (Option Reply)
replied_so meaning course =
    judge_reply (meaning course.config) course.config course.judged course.reply course.at course.answers

-- the step that is asked, if one is
abbrev pub asked_in : {A : Type 0} → Stand A → Option Ask
asked_in (Counts ask) = Some ask
asked_in (Done a) = None
asked_in Overtold = None

abbrev pub asked_by : (ConfigParts → Listed) → CallerParts → Option Ask
asked_by meaning (UnderWay course) = asked_in (judged_so meaning course)
asked_by meaning (Backing course) = asked_in (replied_so meaning course)
asked_by meaning other = None

-- a caller with one answer more
abbrev pub answered : Answer → CallerParts → CallerParts
answered answer (UnderWay course) = UnderWay (told_more (Some answer) course)
answered answer (Backing course) = Backing (back_more (Some answer) course)
answered answer other = other

-- a judging that is done shows its verdict, and the reply may come; a reply that is done is shown
abbrev pub judged_in : Course → Stand Judgement → Move
judged_in course (Done judged) = record { state = Judged course.config judged; shown = shown.Verdict judged.verdict }
judged_in course (Counts ask) = stays (UnderWay course)
judged_in course Overtold = stays (UnderWay course)

abbrev pub replied_in : BackCourse → Stand (Option Reply) → Move
replied_in course (Done (Some reply)) = record { state = Idle; shown = shown.Replied reply }
replied_in course (Done None) = stays (Backing course)
replied_in course (Counts ask) = stays (Backing course)
replied_in course Overtold = stays (Backing course)

abbrev pub finishing : (ConfigParts → Listed) → CallerParts → Move
finishing meaning (UnderWay course) = judged_in course (judged_so meaning course)
finishing meaning (Backing course) = replied_in course (replied_so meaning course)
finishing meaning other = stays other

-- a reply comes at a moment, for a request that passed
abbrev pub reply_came : ConfigParts → Judgement → Reply → ℕ → VerdictKind → Move
reply_came config judged reply at kind.Pass = record {
  state = Backing (record { config = config; judged = judged; reply = reply; at = at; answers = [] });
  shown = shown.Nothing;
}
reply_came config judged reply at other = stays (Judged config judged)

abbrev pub backing : Reply → ℕ → CallerParts → Move
backing reply at (Judged config judged) = reply_came config judged reply at judged.verdict.kind
backing reply at other = stays other

-- ---- the world
pub record Outcome : Type 0 where
  pub world : WorldParts
  pub shown : Shown

-- the caller comes to a state
abbrev pub with_caller : ℕ → CallerParts → WorldParts → WorldParts
with_caller caller state world = record world { callers = slice_set world.callers caller state }

-- the event fits no caller: the world stays
abbrev pub unfit : WorldParts → Outcome
unfit world = record { world = world; shown = shown.Unfit }

abbrev pub moved : ℕ → WorldParts → Move → Outcome
moved caller world move = record { world = with_caller caller move.state world; shown = move.shown }

-- what comes of what the event makes of the caller, where the world has such a caller
abbrev pub moves : ℕ → WorldParts → (CallerParts → Move) → Option CallerParts → Outcome
moves caller world does None = unfit world
moves caller world does (Some state) = moved caller world (does state)

-- the world with the step that the caller has asked
abbrev pub with_step : Terms → ℕ → Ask → WorldParts → WorldParts
with_step terms caller ask world =
    record world { history = world.history ++ entry_of terms.lanes terms.cap world.history caller ask ∷ [] }

-- the step is taken, its answer is the window rule's, and its place is the number of steps before it
abbrev pub counted : Terms → ℕ → WorldParts → CallerParts → Option Ask → Outcome
counted terms caller world state None = unfit world
counted terms caller world state (Some ask) =
    let answer : Answer = answer_of terms.lanes terms.cap world.history ask in
    record {
      world = with_caller caller (answered answer state) (with_step terms caller ask world);
      shown = shown.Counted (length world.history) answer;
    }

abbrev pub counts : Terms → ℕ → WorldParts → Option CallerParts → Outcome
counts terms caller world None = unfit world
counts terms caller world (Some state) = counted terms caller world state (asked_by terms.meaning state)

-- one more configuration is put in force
abbrev pub with_config : ConfigParts → WorldParts → WorldParts
with_config config world = record world { published = world.published ++ Put config ∷ [] }

-- a document is taken, and what it stands for is the next version; or it is refused, and the world stays
abbrev pub IsDeployed : Data → WorldParts → WorldParts → Shown → Type 0
IsDeployed value world next (shown.Deployed number) =
    (config : ConfigParts) × StandsFor value config × (next ≡ with_config config world) × (number ≡ number_of next.published)
IsDeployed value world next (shown.Refused place cause) = Reads value (Err (refusal.Refused place cause)) × (next ≡ world)
IsDeployed value world next other = ⊥

-- what an event comes to
abbrev pub IsStep : Terms → WorldParts → Event → Outcome → Type 0
IsStep terms world (event.Arrive caller request) outcome =
    outcome ≡ moves caller world (arriving request) (slice_get world.callers caller)
IsStep terms world (event.Pick caller) outcome =
    outcome ≡ moves caller world (picking (number_of world.published) (config_of world.published))
    (slice_get world.callers caller)
IsStep terms world (event.Count caller) outcome = outcome ≡ counts terms caller world (slice_get world.callers caller)
IsStep terms world (event.Done caller) outcome =
    outcome ≡ moves caller world (finishing terms.meaning) (slice_get world.callers caller)
IsStep terms world (event.Back caller reply at) outcome =
    outcome ≡ moves caller world (backing reply at) (slice_get world.callers caller)
IsStep terms world (event.Deploy value) outcome = IsDeployed (view value) world outcome.world outcome.shown

-- ---- refusals
-- the caller's request is given up
abbrev pub given_up : ℕ → WorldParts → WorldParts
given_up caller world = with_caller caller Idle world

-- the step that a caller of the world asks, if one is
abbrev pub asked_at : Terms → WorldParts → Option CallerParts → Option Ask
asked_at terms world None = None
asked_at terms world (Some state) = asked_by terms.meaning state

-- a step is asked where 2^50 were taken, or a document is taken where the number is 2^40
abbrev pub IsSpent : Terms → WorldParts → Event → Type 0
IsSpent terms world (event.Count caller) =
    ((ask : Ask) × (asked_at terms world (slice_get world.callers caller) ≡ Some ask)) × (length world.history ≡ 2 ^ 50)
IsSpent terms world (event.Deploy value) =
    ((config : ConfigParts) × StandsFor (view value) config) × (number_of world.published ≡ 2 ^ 40)
IsSpent terms world other = ⊥

-- the caller's step was taken, and then its request was given up
abbrev pub TookStep : Terms → ℕ → WorldParts → WorldParts → Type 0
TookStep terms caller world next =
    (ask : Ask) × (asked_at terms world (slice_get world.callers caller) ≡ Some ask)
    × (next ≡ given_up caller (with_step terms caller ask world))

-- what is left where an event ends in a fault: the caller's request is given up, and a step that was taken stands; a
-- deployment leaves the world as it was
abbrev pub IsLeft : Terms → WorldParts → Event → StepFault → WorldParts → Type 0
IsLeft terms world (event.Arrive caller request) why next = ⊥
IsLeft terms world (event.Pick caller) why next = next ≡ given_up caller world
IsLeft terms world (event.Count caller) fault.Spent next = next ≡ given_up caller world
IsLeft terms world (event.Count caller) fault.Memory next =
    (next ≡ given_up caller world) ⊎ TookStep terms caller world next
IsLeft terms world (event.Done caller) why next = next ≡ given_up caller world
IsLeft terms world (event.Back caller reply at) why next = next ≡ given_up caller world
IsLeft terms world (event.Deploy value) why next = next ≡ world
