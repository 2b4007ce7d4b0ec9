-- What the judging of a reply under way stands for, and what its turns tell.
use Rattle.std.specs.Prelude.{◌≡◌, ℕ, Bool, List, [], ◌∷◌, drop, Option, None, Some, IfSome}
use Rattle.std.specs.Arc.{arc_value}
use Rattle.edge_base.specs.declared.message.Reply.{Reply}
use Rattle.edge_base.specs.declared.message.Request.{Request}
use Rattle.rate_plain.specs.declared.entry.Ask.{Ask}
use Rattle.rate_plain.specs.declared.entry.Answer.{Answer}
use Rattle.ruleset_model.specs.ConfigParts.{ConfigParts}
use Rattle.ruleset_model.specs.declared.phase.Phase.TheVariants as phase
use Rattle.ruleset_model.specs.declared.skips.Skips.{Skips}
use Rattle.judge_core.specs.declared.backing.Back.{Back}
use Rattle.judge_core.specs.declared.backing.BackTurn.{BackTurn}
use Rattle.judge_core.specs.declared.backing.BackTurn.TheVariants as turn
use Rattle.judge_core.specs.declared.backing.Backed.{Backed}
use Rattle.judge_core.specs.declared.backing.Backed.TheVariants as backed
use Rattle.judge_core.specs.declared.backing.Backing.{Backing}
use Rattle.judge_core.specs.declared.backing.Stage.{Stage}
use Rattle.judge_core.specs.declared.backing.Stage.TheVariants as stage
use Rattle.judge_core.specs.declared.carried.State.{State}
use Rattle.judge_core.specs.declared.counting.KeptAsk.{KeptAsk}
use Rattle.judge_core.specs.declared.judging.Judged.{Judged}
use Rattle.judge_core.specs.declared.kept.KeptCount.{KeptCount}
use Rattle.judge_core.specs.declared.outcome.Ran.{Ran}
use Rattle.judge_core.specs.declared.outcome.Ran.TheVariants as ran
use Rattle.judge_core.specs.Carried.{Carried, End}
use Rattle.judge_core.specs.Changing.{unchanged}
use Rattle.judge_core.specs.Judging.{Judgement, backing, carried_at, counting_at, judge_reply, kept_then}
use Rattle.judge_core.specs.Limits.{counts_reply}
use Rattle.judge_core.specs.Machine.{given}
use Rattle.judge_core.specs.Places.{carried_of}
use Rattle.judge_core.specs.Stands.{judgement_of, with_answer}
use Rattle.judge_core.specs.Talk.{Talk, Ends, Asks, Counts, Done, after}
use Rattle.judge_core.specs.Values.{Listed, AreTold}
use Rattle.judge_core.specs.Walk.{phases}

-- a judging of a reply so far: the configuration, what was judged of the request, the reply and its moment, and the
-- answers
pub record BackCourse : Type 0 where
  pub config : ConfigParts
  pub judged : Judgement
  pub reply : Reply
  pub at : ℕ
  pub answers : List Answer

-- no answer so far
abbrev pub back_opening : Judged → Reply → ℕ → BackCourse
back_opening judged reply at = record {
  config = arc_value judged.config;
  judged = judgement_of judged;
  reply = reply;
  at = at;
  answers = [];
}

abbrev pub back_more : Option Answer → BackCourse → BackCourse
back_more answer course = record course { answers = with_answer answer course.answers }

-- ---- what a judging stands for
-- what is left: all kept rules and the phase, those behind the one that asked, or what comes of the answer to a rule of
-- the phase
abbrev pub IsBackLeft : Listed → ConfigParts → ℕ → List KeptCount → Stage → Carried → Talk End → Type 0
IsBackLeft listed config at kept stage.Begins c talk = talk ≡ kept_then listed config at c kept
IsBackLeft listed config at kept (stage.Counted next) c talk =
    (ask : Ask) × (talk ≡ Asks ask (λ answer. kept_then listed config at c (drop next kept)))
IsBackLeft listed config at kept (stage.Walked asked) c talk =
    (ask : Ask) × (talk ≡ Asks ask (given listed config asked c))

-- what is left is what the definition leaves after the answers
pub record IsBackUnderWay (listed : Listed) (course : BackCourse) (now : Backing) : Type 0 where
  pub config : arc_value now.config ≡ course.config
  pub talk : Talk End
  pub is_after : after (backing listed course.config course.judged course.reply course.at) course.answers ≡ Some talk
  pub is_left : IsBackLeft listed course.config now.at now.kept now.stage (carried_of course.config now.state) talk

-- one that was refused memory stands for nothing
abbrev pub StandsForBack : Listed → BackCourse → Back → Type 0
StandsForBack listed course now = IfSome now.backing (IsBackUnderWay listed course)

-- it is told of the lists of its configuration which values they have
abbrev pub IsToldBack : Listed → Back → Type 0
IsToldBack listed now = IfSome now.backing (λ (one : Backing). AreTold listed (arc_value one.config))

-- an answer may be told where a step was asked, and none at first
abbrev pub FitsStage : Stage → Option Answer → Type 0
FitsStage stage.Begins None = Unit {0}
FitsStage stage.Begins (Some answer) = ⊥
FitsStage (stage.Counted next) None = ⊥
FitsStage (stage.Counted next) (Some answer) = Unit {0}
FitsStage (stage.Walked asked) None = ⊥
FitsStage (stage.Walked asked) (Some answer) = Unit {0}

abbrev pub MayTellBack : Option Answer → Back → Type 0
MayTellBack answer now = IfSome now.backing (λ (one : Backing). FitsStage one.stage answer)

-- ---- what a turn tells
-- a step is asked, and the judging stands for what comes of its answer
pub record TellsBackAsk (listed : Listed) (course : BackCourse) (now : Back) (ask : Ask) : Type 0 where
  pub asks : judge_reply listed course.config course.judged course.reply course.at course.answers ≡ Counts ask
  pub stands : StandsForBack listed course now
  pub told : IsToldBack listed now
  pub may : (answer : Answer) → MayTellBack (Some answer) now

-- the reply, as the definition has it
abbrev pub TellsReply : Listed → BackCourse → Reply → Type 0
TellsReply listed course reply =
    judge_reply listed course.config course.judged course.reply course.at course.answers ≡ Done (Some reply)

abbrev pub TellsBack : Listed → BackCourse → Back → BackTurn → Type 0
TellsBack listed course now (turn.Count ask) = TellsBackAsk listed course now ask
TellsBack listed course now (turn.Done reply) = TellsReply listed course reply

-- whatever the judging stood for, the turn tells the same with the answer
abbrev pub TellsBackTurn : Listed → Option Answer → Back → Back → BackTurn → Type 0
TellsBackTurn listed answer before now next =
    (course : BackCourse) → StandsForBack listed course before → TellsBack listed (back_more answer course) now next

-- ---- inside a turn
-- what is carried at first
abbrev pub back_opened : Request → Reply → Skips → State
back_opened request reply skips = record {
  request = request;
  reply = Some reply;
  earlier = Some skips;
  skipping = [];
  changes = unchanged;
  noted = [];
  kept = [];
}

-- the reply's phase alone
abbrev pub reply_phase : Listed → ConfigParts → Carried → Talk End
reply_phase listed config c = phases listed config (phase.ResponseTransform ∷ []) c

-- whether a rule that was kept counts the reply
abbrev pub CountsReply : Listed → ConfigParts → KeptCount → State → Bool → Type 0
CountsReply listed config kept state counts =
    counts ≡ counts_reply listed (counting_at config kept) (carried_of config state)

-- the next kept rule that asks, or none and then the phase
abbrev pub KeptComes : Listed → ConfigParts → ℕ → List KeptCount → Carried → Talk End → Option KeptAsk → Type 0
KeptComes listed config at kept c talk None = talk ≡ reply_phase listed config c
KeptComes listed config at kept c talk (Some found) =
    talk ≡ Asks found.ask (λ answer. kept_then listed config at c (drop found.next kept))

abbrev pub KeptGoesOn : Listed → ConfigParts → ℕ → List KeptCount → ℕ → State → Option KeptAsk → Type 0
KeptGoesOn listed config at kept from state found =
    let c : Carried = carried_of config state in
    KeptComes listed config at kept c (kept_then listed config at c (drop from kept)) found

-- what is left where the judging came to a stop; at its end the reply is the one that is carried
abbrev pub IsBacked : Listed → ConfigParts → ℕ → List KeptCount → Carried → Talk End → Backed → Type 0
IsBacked listed config at kept c talk (backed.Counts found) =
    talk ≡ Asks found.ask (λ answer. kept_then listed config at c (drop found.next kept))
IsBacked listed config at kept c talk (backed.Asks ask asked) = talk ≡ Asks ask (given listed config asked c)
IsBacked listed config at kept c talk backed.Ended = (end : End) × (talk ≡ Ends end) × ((carried_at end).reply ≡ c.reply)

-- where the phase came to a stop the judging did
abbrev pub EndsSoon : Ran → Backed → Type 0
EndsSoon ran.Passed r = r ≡ backed.Ended
EndsSoon (ran.Closed verdict name) r = r ≡ backed.Ended
EndsSoon (ran.Asks ask asked) r = r ≡ backed.Asks ask asked

abbrev pub CountsOn : Listed → ConfigParts → ℕ → List KeptCount → ℕ → State → State → Backed → Type 0
CountsOn listed config at kept from before after r =
    IsBacked listed config at kept (carried_of config after)
    (kept_then listed config at (carried_of config before) (drop from kept)) r

-- what is left once the judging is told an answer where it asked a step, or nothing where it begins
abbrev pub back_due : Listed → ConfigParts → ℕ → List KeptCount → Stage → Option Answer → Carried → Talk End
back_due listed config at kept stage.Begins answer c = kept_then listed config at c kept
back_due listed config at kept (stage.Counted next) answer c = kept_then listed config at c (drop next kept)
back_due listed config at kept (stage.Walked asked) None c = kept_then listed config at c kept
back_due listed config at kept (stage.Walked asked) (Some answer) c = given listed config asked c answer

abbrev pub BacksOn :
    Listed → ConfigParts → ℕ → List KeptCount → Stage → Option Answer → State → State → Backed → Type 0
BacksOn listed config at kept asked answer before after r =
    IsBacked listed config at kept (carried_of config after)
    (back_due listed config at kept asked answer (carried_of config before)) r

abbrev pub BackProceeds : Listed → Option Answer → Backing → Backing → Backed → Type 0
BackProceeds listed answer before now r =
    BacksOn listed (arc_value before.config) before.at before.kept before.stage answer before.state now.state r
