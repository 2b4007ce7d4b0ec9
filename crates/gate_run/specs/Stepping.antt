-- The loops between a judging, of a request or of a reply, and the counter. No public clause cites these words.
use Rattle.std.specs.Prelude.{◌≡◌, ℕ, List, [], ◌∷◌, ◌++◌, length, Option, MatchResult}
use Rattle.std.specs.declared.result.Result.{Result}
use Rattle.std.specs.Arc.{arc_value}
use Rattle.edge_base.specs.declared.message.Reply.{Reply}
use Rattle.edge_base.specs.declared.message.Request.{Request}
use Rattle.rate_plain.specs.History.{own_of}
use Rattle.rate_plain.specs.declared.entry.Ask.{Ask}
use Rattle.rate_plain.specs.declared.entry.Answer.{Answer}
use Rattle.rate_plain.specs.declared.entry.Counted.{Counted}
use Rattle.rate_plain.specs.declared.entry.Entry.{Entry}
use Rattle.rate_plain.specs.declared.fault.StepFault.{StepFault}
use Rattle.rate_shared.specs.Callers.{history_of}
use Rattle.rate_shared.specs.Promise.{Counts as StepCounts}
use Rattle.rate_shared.specs.declared.rule.Shape.{Shape}
use Rattle.rate_shared.specs.declared.seen.Seen.{Seen}
use Rattle.ruleset_model.specs.declared.picked.Picked.{Picked}
use Rattle.judge_core.specs.Backing.{BackCourse, back_opening, StandsForBack}
use Rattle.judge_core.specs.Stands.{Course, opening, StandsFor, with_answer}
use Rattle.judge_core.specs.Talk.{Stand}
use Rattle.judge_core.specs.Values.{Listed}
use Rattle.judge_core.specs.declared.backing.Back.{Back}
use Rattle.judge_core.specs.declared.judging.Judge.{Judge}
use Rattle.judge_core.specs.declared.judging.Judged.{Judged}
use Rattle.gate_run.specs.Promises.{Grew, JudgedIn, StoppedIn, BackedIn, StoppedBack}
use Rattle.gate_run.specs.Went.{answers_of, AreAsked, counts_from}

-- ---- what a judging stands for after these answers
abbrev pub course_at : Picked → Request → List Answer → Course
course_at picked request past = record (opening picked request) { answers = past }

abbrev pub back_course_at : Judged → Reply → ℕ → List Answer → BackCourse
back_course_at judged reply at past = record (back_opening judged reply at) { answers = past }

abbrev pub StandsAt : Listed → Picked → Request → List Answer → Judge → Type 0
StandsAt listed picked request past one = StandsFor listed (course_at picked request past) one

abbrev pub StandsBackAt : Listed → Judged → Reply → ℕ → List Answer → Back → Type 0
StandsBackAt listed judged reply at past one = StandsForBack listed (back_course_at judged reply at past) one

-- ---- one step
-- the step is the caller's one further entry, and is shown
pub record TookStep (shape : Shape) (caller : ℕ) (before after : List Entry) (ask : Ask) (shown shown' : List Counted) (answer : Answer) : Type 0 where
  pub counted : Counted
  pub counts : StepCounts shape caller before after ask counted
  pub its : answer ≡ counted.answer
  pub shows : shown' ≡ shown ++ counted ∷ []

-- a refusal takes none
abbrev pub TakesStep : Shape → Seen → Seen → Ask → List Counted → List Counted → Result Answer StepFault → Type 0
TakesStep shape before after ask shown shown' result =
    MatchResult result (TookStep shape before.caller (history_of before) (history_of after) ask shown shown')
    (λ _. history_of after ≡ history_of before)

-- ---- a loop under way
-- the judging has asked these steps, and stands for their answers, the last of which it is yet to be told
pub record IsUnder {T J : Type 0} (judging : List Answer → Stand T) (Stands : List Answer → J → Type 0) (own : List Entry) (one : J) (answer : Option Answer) : Type 0 where
  pub past : List Answer
  pub stands : Stands past one
  pub heard : with_answer answer past ≡ answers_of own
  pub asked : AreAsked judging own

-- the steps that were taken since the first are shown, and the judging is under way by them
pub record IsTalking {T J : Type 0} (judging : List Answer → Stand T) (Stands : List Answer → J → Type 0) (shape : Shape) (first now : Seen) (one : J) (answer : Option Answer) (shown : List Counted) : Type 0 where
  pub new : List Entry
  pub seen : Grew shape (history_of first) (history_of now) new
  pub shows : shown ≡ counts_from first.caller (length (history_of first)) new
  pub under : IsUnder judging Stands (own_of new first.caller) one answer

-- ---- what the loops promise
abbrev pub JudgesIn : Shape → Seen → Seen → Picked → Request → List Counted → Result Judged StepFault → Type 0
JudgesIn shape before after picked request shown result =
    MatchResult result (λ (judged : Judged). JudgedIn shape before after picked.number (arc_value picked.config) request judged shown)
    (StoppedIn shape before after (arc_value picked.config) request)

abbrev pub BacksIn : Shape → Seen → Seen → Judged → Reply → ℕ → List Counted → Result Reply StepFault → Type 0
BacksIn shape before after judged reply at shown result =
    MatchResult result (λ (backed : Reply). BackedIn shape before after judged reply at backed shown)
    (StoppedBack shape before after judged reply at)
