-- What a judging under way stands for, and what its turns tell.
use Rattle.std.specs.Prelude.{◌≡◌, ℕ, List, [], ◌∷◌, ◌++◌, Option, None, Some, IfSome}
use Rattle.std.specs.Arc.{arc_value}
use Rattle.edge_base.specs.declared.message.Request.{Request}
use Rattle.edge_base.specs.declared.rule_name.RuleName.{RuleName}
use Rattle.rate_plain.specs.declared.entry.Ask.{Ask}
use Rattle.rate_plain.specs.declared.entry.Answer.{Answer}
use Rattle.ruleset_model.specs.ConfigParts.{ConfigParts}
use Rattle.ruleset_model.specs.declared.picked.Picked.{Picked}
use Rattle.ruleset_model.specs.declared.verdict.VerdictKind.{VerdictKind}
use Rattle.judge_core.specs.declared.carried.State.{State}
use Rattle.judge_core.specs.declared.judging.Judge.{Judge}
use Rattle.judge_core.specs.declared.judging.Judged.{Judged}
use Rattle.judge_core.specs.declared.judging.Running.{Running}
use Rattle.judge_core.specs.declared.judging.Turn.{Turn}
use Rattle.judge_core.specs.declared.judging.Turn.TheVariants as turn
use Rattle.judge_core.specs.declared.outcome.Asked.{Asked}
use Rattle.judge_core.specs.declared.outcome.Ran.{Ran}
use Rattle.judge_core.specs.Carried.{Carried, End}
use Rattle.judge_core.specs.Changing.{unchanged}
use Rattle.judge_core.specs.Judging.{Judgement, judge, judged_as, judging}
use Rattle.judge_core.specs.Machine.{left_between, given}
use Rattle.judge_core.specs.Places.{carried_of}
use Rattle.judge_core.specs.Ran.{GoesOn}
use Rattle.judge_core.specs.Talk.{Talk, Asks, Counts, Done, after}
use Rattle.judge_core.specs.Values.{Listed, AreTold}

-- a judging so far: the number of the version and its configuration, the request, and the answers
pub record Course : Type 0 where
  pub number : ℕ
  pub config : ConfigParts
  pub request : Request
  pub answers : List Answer

-- no answer so far
abbrev pub opening : Picked → Request → Course
opening picked request = record {
  number = picked.number;
  config = arc_value picked.config;
  request = request;
  answers = [];
}

-- the same with one answer more, or none
abbrev pub with_answer : Option Answer → List Answer → List Answer
with_answer None answers = answers
with_answer (Some answer) answers = answers ++ answer ∷ []

abbrev pub told_more : Option Answer → Course → Course
told_more answer course = record course { answers = with_answer answer course.answers }

-- ---- what a judging stands for
-- what is left: all phases, or what comes of the answer to the step that was asked
abbrev pub IsLeft : Listed → ConfigParts → Option Asked → Carried → Talk End → Type 0
IsLeft listed config None c talk = talk ≡ left_between listed config 0 c
IsLeft listed config (Some asked) c talk = (ask : Ask) × (talk ≡ Asks ask (given listed config asked c))

-- what is left is what the definition leaves after the answers
pub record IsUnderWay (listed : Listed) (course : Course) (running : Running) : Type 0 where
  pub number : running.picked.number ≡ course.number
  pub config : arc_value running.picked.config ≡ course.config
  pub talk : Talk End
  pub is_after : after (judging listed course.config course.request) course.answers ≡ Some talk
  pub is_left : IsLeft listed course.config running.asked (carried_of course.config running.state) talk

-- one that was refused memory stands for nothing
abbrev pub StandsFor : Listed → Course → Judge → Type 0
StandsFor listed course now = IfSome now.running (IsUnderWay listed course)

-- it is told of the lists of its configuration which values they have
abbrev pub IsTold : Listed → Judge → Type 0
IsTold listed now = IfSome now.running (λ (running : Running). AreTold listed (arc_value running.picked.config))

-- an answer may be told where a step was asked, and none at first
abbrev pub Fits : Option Asked → Option Answer → Type 0
Fits None None = Unit {0}
Fits None (Some answer) = ⊥
Fits (Some asked) None = ⊥
Fits (Some asked) (Some answer) = Unit {0}

abbrev pub MayTell : Option Answer → Judge → Type 0
MayTell answer now = IfSome now.running (λ (running : Running). Fits running.asked answer)

-- ---- what a turn tells
-- a step is asked, and the judging stands for what comes of its answer
pub record TellsAsk (listed : Listed) (course : Course) (now : Judge) (ask : Ask) : Type 0 where
  pub asks : judge listed course.config course.request course.answers ≡ Counts ask
  pub stands : StandsFor listed course now
  pub told : IsTold listed now
  pub may : (answer : Answer) → MayTell (Some answer) now

-- what was judged, as the definition has it
abbrev pub judgement_of : Judged → Judgement
judgement_of judged = record {
  verdict = judged.verdict;
  request = judged.request;
  kept = judged.kept;
  skips = judged.skips;
}

-- the judging is done in its version
pub record TellsDone (listed : Listed) (course : Course) (judged : Judged) : Type 0 where
  pub version : judged.version ≡ course.number
  pub config : arc_value judged.config ≡ course.config
  pub done : judge listed course.config course.request course.answers ≡ Done (judgement_of judged)

abbrev pub Tells : Listed → Course → Judge → Turn → Type 0
Tells listed course now (turn.Count ask) = TellsAsk listed course now ask
Tells listed course now (turn.Done judged) = TellsDone listed course judged

-- whatever the judging stood for, the turn tells the same with the answer
abbrev pub TellsTurn : Listed → Option Answer → Judge → Judge → Turn → Type 0
TellsTurn listed answer before now next =
    (course : Course) → StandsFor listed course before → Tells listed (told_more answer course) now next

-- ---- inside a turn
-- what is carried at first
abbrev pub opened : Request → State
opened request = record {
  request = request;
  reply = None;
  earlier = None;
  skipping = [];
  changes = unchanged;
  noted = [];
  kept = [];
}

-- what was left once the answer is told is what is left where the judging came to a stop
abbrev pub Proceeds : Listed → Option Answer → Running → Running → Ran → Type 0
Proceeds listed answer before now r =
    GoesOn listed (arc_value before.picked.config) before.asked answer before.state now.state r

-- what was judged in a version where this was carried in the end
pub record IsJudged (running : Running) (kind : VerdictKind) (rule : Option RuleName) (judged : Judged) : Type 0 where
  pub version : judged.version ≡ running.picked.number
  pub config : arc_value judged.config ≡ arc_value running.picked.config
  pub judgement :
      judgement_of judged ≡ judged_as kind rule (carried_of (arc_value running.picked.config) running.state)
