-- The talk of a judging with the counter that keeps its steps. No public clause cites these words.
use Rattle.std.specs.Prelude.{◌≡◌, ℕ, ◌+◌, ◌^◌, List, [], ◌∷◌, ◌++◌, length, Option, Some}
use Rattle.std.specs.Arc.{arc_value}
use Rattle.edge_base.specs.declared.message.Header.{Header}
use Rattle.edge_base.specs.declared.message.Reply.{Reply}
use Rattle.edge_base.specs.declared.message.Request.{Request}
use Rattle.rate_plain.specs.declared.entry.Ask.{Ask}
use Rattle.rate_plain.specs.declared.entry.Answer.{Answer}
use Rattle.rate_plain.specs.declared.entry.Counted.{Counted}
use Rattle.rate_plain.specs.declared.entry.Entry.{Entry}
use Rattle.rate_lane.specs.Lanes.{AreLanesOf}
use Rattle.rate_lane.specs.declared.lanes.Lanes.{Lanes}
use Rattle.ruleset_model.specs.ConfigParts.{ConfigParts}
use Rattle.ruleset_model.specs.declared.picked.Picked.{Picked}
use Rattle.judge_core.specs.Backing.{BackCourse, StandsForBack, back_opening}
use Rattle.judge_core.specs.Carried.{End}
use Rattle.judge_core.specs.Judging.{Judgement, judging, judgement, backing, carried_at}
use Rattle.judge_core.specs.Stands.{Course, StandsFor, opening, judgement_of, with_answer}
use Rattle.judge_core.specs.Talk.{Talk, after}
use Rattle.judge_core.specs.Values.{Listed}
use Rattle.judge_core.specs.declared.backing.Back.{Back}
use Rattle.judge_core.specs.declared.judging.Judge.{Judge}
use Rattle.judge_core.specs.declared.judging.Judged.{Judged}
use Rattle.trace_form.specs.declared.output.LineParts.{LineParts}
use Rattle.trace_form.specs.declared.item.Recorded.{Recorded}
use Rattle.edge_main.specs.Answered.{RunState, Backed, reply_backed, request_talked, followed, judged_parts}
use Rattle.edge_main.specs.Counting.{replied, with_step, shown_step, talked, IsSpentIn}
use Rattle.edge_main.specs.Spent.{IsSpentBack, IsSpentFor}
use Rattle.edge_main.specs.declared.asking.Followed.{Followed}

-- the counter of `replay`, after the steps of this history
abbrev pub IsCounter : Lanes → List Entry → Type 0
IsCounter counter history = AreLanesOf counter 64 4096 history

-- it counts after the steps of some history
abbrev pub IsCounting : Lanes → Type 0
IsCounting counter = (history : List Entry) × IsCounter counter history

-- whatever steps it stands after, this holds
abbrev pub WhereCounts : Lanes → (List Entry → Type 0) → Type 0
WhereCounts counter Holds = (history : List Entry) → IsCounter counter history → Holds history

-- ---- one step
pub record TookStep (ask : Ask) (shown : List Counted) (counter : Lanes) (shown' : List Counted) (answer : Answer) (history : List Entry) : Type 0 where
  pub answer_is : answer ≡ replied history ask
  pub counter_is : IsCounter counter (with_step history ask)
  pub shown_is : shown' ≡ shown ++ shown_step history ask ∷ []

abbrev pub TakesStep : Lanes → Ask → List Counted → Lanes → List Counted → Answer → Type 0
TakesStep counter ask shown counter' shown' answer = WhereCounts counter (TookStep ask shown counter' shown' answer)

-- the counter can take no further step
abbrev pub IsFull : Lanes → Type 0
IsFull counter = WhereCounts counter (λ history. length history ≡ 2 ^ 50)

-- ---- a talk under way
-- what is left of the talk comes, after more steps, to what the whole comes to
pub record IsTalking {A : Type 0} (talk : Talk A) (history : List Entry) (before : List Counted) (left : Talk A) (now : List Entry) (shown : List Counted) : Type 0 where
  pub ended_is : (talked talk history).ended ≡ (talked left now).ended
  pub history_is : (talked talk history).history ≡ (talked left now).history
  pub counts_are : before ++ (talked talk history).counts ≡ shown ++ (talked left now).counts
  pub spends : IsSpentIn left now → IsSpentIn talk history

-- the machine stands after some answers, of which it is yet to be told the last, and the counter after their steps
pub record IsUnder (talk : Talk End) (Stands : List Answer → Type 0) (before : List Counted) (answer : Option Answer) (counter : Lanes) (shown : List Counted) (history : List Entry) : Type 0 where
  pub past : List Answer
  pub stands : Stands past
  pub left : Talk End
  pub is_after : after talk (with_answer answer past) ≡ Some left
  pub now : List Entry
  pub counter_is : IsCounter counter now
  pub talking : IsTalking talk history before left now shown

-- the talk is at its end: this is seen of it, and these are its steps
pub record IsTalked {B : Type 0} (seen : End → B) (talk : Talk End) (before : List Counted) (counter : Lanes) (shown : List Counted) (told : B) (history : List Entry) : Type 0 where
  pub ended_is : seen (talked talk history).ended ≡ told
  pub counter_is : IsCounter counter (talked talk history).history
  pub counts_are : shown ≡ before ++ (talked talk history).counts

-- ---- a request
abbrev pub course_of : Picked → Request → List Answer → Course
course_of picked request past = record (opening picked request) { answers = past }

-- the judging of a request under way
abbrev pub IsJudgingSo : Listed → Picked → Request → List Counted → Judge → Option Answer → Lanes → List Counted → List Entry → Type 0
IsJudgingSo listed picked request before judge answer counter shown history =
    IsUnder (judging listed (arc_value picked.config) request) (λ past. StandsFor listed (course_of picked request past) judge)
    before answer counter shown history

-- the judging of a request is done
pub record JudgesTo (listed : Listed) (picked : Picked) (request : Request) (before : List Counted) (counter : Lanes) (shown : List Counted) (judged : Judged) (history : List Entry) : Type 0 where
  pub talked : IsTalked judgement (judging listed (arc_value picked.config) request) before counter shown (judgement_of judged) history
  pub config : arc_value judged.config ≡ arc_value picked.config

-- a step of the request is one too many
abbrev pub SpendsOnRequest : Listed → Picked → Request → Lanes → Type 0
SpendsOnRequest listed picked request counter =
    WhereCounts counter (IsSpentIn (judging listed (arc_value picked.config) request))

-- ---- a reply
abbrev pub back_course_of : Judged → Reply → ℕ → List Answer → BackCourse
back_course_of judged reply at past = record (back_opening judged reply at) { answers = past }

abbrev pub reply_talk : Listed → Judged → Reply → ℕ → Talk End
reply_talk listed judged reply at = backing listed (arc_value judged.config) (judgement_of judged) reply at

-- the judging of a reply under way
abbrev pub IsBackingSo : Listed → Judged → Reply → ℕ → List Counted → Back → Option Answer → Lanes → List Counted → List Entry → Type 0
IsBackingSo listed judged reply at before back answer counter shown history =
    IsUnder (reply_talk listed judged reply at) (λ past. StandsForBack listed (back_course_of judged reply at past) back)
    before answer counter shown history

-- the judging of a reply is done
abbrev pub BacksTo : Listed → Judged → Reply → ℕ → List Counted → Lanes → List Counted → Reply → List Entry → Type 0
BacksTo listed judged reply at before counter shown backed history =
    IsTalked (λ (end : End). (carried_at end).reply) (reply_talk listed judged reply at) before counter shown (Some backed) history

-- a step of the reply is one too many
abbrev pub SpendsOnReply : Listed → Judged → Reply → ℕ → Lanes → Type 0
SpendsOnReply listed judged reply at counter = WhereCounts counter (IsSpentIn (reply_talk listed judged reply at))

-- ---- a request and its reply
-- what came of a reply, if there is one: its headers, the steps with those before them, and the counter
pub record IsBackedAs (back : Backed) (before : List Counted) (counter : Lanes) (shown : List Counted) (headers : Option (List Header × List Header)) : Type 0 where
  pub counter_is : IsCounter counter back.history
  pub counts_are : shown ≡ before ++ back.counts
  pub headers_are : headers ≡ back.headers

abbrev pub back_for : Listed → Judged → Option (Reply × ℕ) → List Entry → Backed
back_for listed judged used history = reply_backed listed (arc_value judged.config) (judgement_of judged) used history

-- the reply that was used is judged; the verdict and the request stay as they were judged
pub record FollowsAs (listed : Listed) (judged : Judged) (used : Option (Reply × ℕ)) (before : List Counted) (counter : Lanes) (shown : List Counted) (followed : Followed) (history : List Entry) : Type 0 where
  pub verdict : followed.verdict ≡ judged.verdict
  pub request : followed.request ≡ judged.request
  pub backed : IsBackedAs (back_for listed judged used history) before counter shown followed.headers

-- a step of the reply that was used is one too many
abbrev pub SpendsOnUsed : Listed → Judged → Option (Reply × ℕ) → Lanes → Type 0
SpendsOnUsed listed judged used counter =
    WhereCounts counter (IsSpentBack listed (arc_value judged.config) (judgement_of judged) used)

-- wherever a run stands whose next request has this number and is judged in this version, this holds
abbrev pub WhereAsked : Lanes → Picked → ℕ → (RunState → Type 0) → Type 0
WhereAsked counter picked number Holds =
    (s : RunState) → IsCounter counter s.history → picked.number ≡ s.version → arc_value picked.config ≡ s.config
    → number ≡ s.requests + 1 → Holds s

-- what the line tells of the request and its reply, and the counter after their steps
pub record IsTold (listed : Listed) (recorded : Recorded) (counter : Lanes) (parts : LineParts) (s : RunState) : Type 0 where
  pub parts_are :
      parts ≡ judged_parts s recorded.request (request_talked listed s recorded.request)
      (followed listed s recorded.reply (request_talked listed s recorded.request))
  pub counter_is : IsCounter counter (followed listed s recorded.reply (request_talked listed s recorded.request)).history
