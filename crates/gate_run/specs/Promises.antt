-- What the calls of a gate promise: of a request and a reply that were judged while others counted, and of one that was
-- refused on its way.
use Rattle.std.specs.Prelude.{◌≡◌, ◌⊎◌, ℕ, ◌^◌, Bool, List, ◌++◌, length, MatchResult}
use Rattle.std.specs.declared.result.Result.{Result}
use Rattle.std.specs.Arc.{arc_value}
use Rattle.edge_base.specs.declared.message.Reply.{Reply}
use Rattle.edge_base.specs.declared.message.Request.{Request}
use Rattle.rate_plain.specs.History.{IsLegal, own_of}
use Rattle.rate_plain.specs.declared.entry.Answer.{Answer}
use Rattle.rate_plain.specs.declared.entry.Ask.{Ask}
use Rattle.rate_plain.specs.declared.entry.Counted.{Counted}
use Rattle.rate_plain.specs.declared.entry.Entry.{Entry}
use Rattle.rate_plain.specs.declared.fault.StepFault.{StepFault}
use Rattle.rate_plain.specs.declared.fault.StepFault.TheVariants as fault
use Rattle.rate_shared.specs.Callers.{history_of, own_history}
use Rattle.rate_shared.specs.declared.rule.Shape.{Shape}
use Rattle.rate_shared.specs.declared.seen.Seen.{Seen}
use Rattle.ruleset_model.specs.ConfigParts.{ConfigParts}
use Rattle.ruleset_model.specs.declared.picked.Picked.{Picked}
use Rattle.judge_core.specs.Judging.{judge, judge_reply}
use Rattle.judge_core.specs.Stands.{judgement_of}
use Rattle.judge_core.specs.Talk.{Stand, Counts}
use Rattle.judge_core.specs.Values.{Listed}
use Rattle.judge_core.specs.declared.judging.Judged.{Judged}
use Rattle.version_store.specs.Notices.{IsVersion}
use Rattle.gate_run.specs.Named.{IsMeaningOf}
use Rattle.gate_run.specs.Passes.{known_to}
use Rattle.gate_run.specs.Went.{answers_of, AreAsked, Went, WentBack, counts_from}
use Rattle.gate_run.specs.declared.passes.Answered.{Answered}
use Rattle.gate_run.specs.declared.passes.Finished.{Finished}
use Rattle.gate_run.specs.declared.passes.Pass.{Pass}

-- a history is a legal one that goes on with these entries
pub record Grew (shape : Shape) (before after new : List Entry) : Type 0 where
  pub grown : after ≡ before ++ new
  pub legal : IsLegal shape.lanes shape.cap after

-- the judging stopped on its way: the caller's own new entries are the steps that it would ask, and where the caller's steps
-- are spent, one more was asked
pub record StoppedAt {A : Type 0} (judging : List Answer → Stand A) (shape : Shape) (before after : Seen) (why : StepFault) : Type 0 where
  pub new : List Entry
  pub grew : Grew shape (history_of before) (history_of after) new
  pub asked : AreAsked judging (own_of new before.caller)
  pub spent : why ≡ fault.Spent → length (own_history after) ≡ 2 ^ 40
  pub one_more : why ≡ fault.Spent → (ask : Ask) × (judging (answers_of (own_of new before.caller)) ≡ Counts ask)

-- ---- a request
-- it was judged in this version: the judging is the interpreter's by the caller's own new entries, which are shown by
-- their places and answers
pub record JudgedIn (shape : Shape) (before after : Seen) (number : ℕ) (config : ConfigParts) (request : Request) (judged : Judged) (counts : List Counted) : Type 0 where
  pub new : List Entry
  pub grew : Grew shape (history_of before) (history_of after) new
  pub listed : Listed
  pub meaning : IsMeaningOf config.lists listed
  pub went : Went listed config request (own_of new before.caller) (judgement_of judged)
  pub version : judged.version ≡ number
  pub its_config : arc_value judged.config ≡ config
  pub shows : counts ≡ counts_from before.caller (length (history_of before)) new

abbrev pub AnsweredIn : Shape → Seen → Seen → ℕ → ConfigParts → Request → Answered → Type 0
AnsweredIn shape before after number config request answered =
    JudgedIn shape before after number config request answered.judged answered.counts

-- it stopped on its way
pub record StoppedIn (shape : Shape) (before after : Seen) (config : ConfigParts) (request : Request) (why : StepFault) : Type 0 where
  pub listed : Listed
  pub meaning : IsMeaningOf config.lists listed
  pub stopped : StoppedAt (judge listed config request) shape before after why

-- what a call that judges in a version promises
abbrev pub AnswersIn : Shape → Seen → Seen → Picked → Request → Result Answered StepFault → Type 0
AnswersIn shape before after picked request result =
    let config : ConfigParts = arc_value picked.config in
    MatchResult result (AnsweredIn shape before after picked.number config request) (StoppedIn shape before after config request)

-- it was judged in the version with which the list that the pass now knows ends
pub record AnsweredBy (shape : Shape) (before after : Pass) (request : Request) (answered : Answered) : Type 0 where
  pub stop : Bool
  pub picked : IsVersion (known_to after) answered.judged.version stop (arc_value answered.judged.config)
  pub answered_in : AnsweredIn shape before.seen after.seen answered.judged.version (arc_value answered.judged.config) request answered

-- it stopped in such a version
pub record StoppedBy (shape : Shape) (before after : Pass) (request : Request) (why : StepFault) : Type 0 where
  pub number : ℕ
  pub stop : Bool
  pub config : ConfigParts
  pub picked : IsVersion (known_to after) number stop config
  pub stopped_in : StoppedIn shape before.seen after.seen config request why

-- no version was picked, and nothing was seen
pub record Unpicked (before after : Pass) (why : StepFault) : Type 0 where
  pub memory : why ≡ fault.Memory
  pub seen : history_of after.seen ≡ history_of before.seen

abbrev pub Refused : Shape → Pass → Pass → Request → StepFault → Type 0
Refused shape before after request why = Unpicked before after why ⊎ StoppedBy shape before after request why

-- what a call that picks the version promises
abbrev pub AnswersBy : Shape → Pass → Pass → Request → Result Answered StepFault → Type 0
AnswersBy shape before after request result =
    MatchResult result (AnsweredBy shape before after request) (Refused shape before after request)

-- ---- a reply
-- it was judged in the version of its request
pub record BackedIn (shape : Shape) (before after : Seen) (judged : Judged) (reply : Reply) (at : ℕ) (backed : Reply) (counts : List Counted) : Type 0 where
  pub new : List Entry
  pub grew : Grew shape (history_of before) (history_of after) new
  pub listed : Listed
  pub meaning : IsMeaningOf (arc_value judged.config).lists listed
  pub went : WentBack listed (arc_value judged.config) (judgement_of judged) reply at (own_of new before.caller) backed
  pub shows : counts ≡ counts_from before.caller (length (history_of before)) new

abbrev pub FinishedIn : Shape → Seen → Seen → Judged → Reply → ℕ → Finished → Type 0
FinishedIn shape before after judged reply at finished =
    BackedIn shape before after judged reply at finished.reply finished.counts

-- it stopped on its way
pub record StoppedBack (shape : Shape) (before after : Seen) (judged : Judged) (reply : Reply) (at : ℕ) (why : StepFault) : Type 0 where
  pub listed : Listed
  pub meaning : IsMeaningOf (arc_value judged.config).lists listed
  pub stopped : StoppedAt (judge_reply listed (arc_value judged.config) (judgement_of judged) reply at) shape before after why

abbrev pub Finishes : Shape → Seen → Seen → Judged → Reply → ℕ → Result Finished StepFault → Type 0
Finishes shape before after judged reply at result =
    MatchResult result (FinishedIn shape before after judged reply at) (StoppedBack shape before after judged reply at)
