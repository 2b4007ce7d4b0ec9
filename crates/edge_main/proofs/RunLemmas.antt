-- A line is answered, whatever it is.
use Rattle.std.proofs.Common.{◌≡◌, ◌<◌, ◌^◌, ℕ, List, length, Option, None, Some, Result, Ok, Err, OnOk, refl, sym, ap, ◌∙◌}
use Rattle.std.proofs.lemmas.Bool.{lt-leb}
use Rattle.rate_plain.specs.declared.fault.StepFault.{StepFault}
use Rattle.rate_plain.specs.declared.fault.StepFault.TheVariants as step
use Rattle.trace_form.specs.Item.{IsDeploy, IsAsk, IsNoItem, SaysWhy}
use Rattle.trace_form.specs.Item as no_item
use Rattle.serde_json.specs.Data.{Data}
use Rattle.trace_form.specs.declared.item.Recorded.{Recorded}
use Rattle.trace_form.specs.declared.refusal.BadCause.TheVariants as cause
use Rattle.trace_form.specs.declared.refusal.LineFault.{LineFault}
use Rattle.trace_form.specs.declared.refusal.LineFault.TheVariants as fault
use Rattle.edge_main.specs.declared.run.Run.{Run}
use Rattle.edge_main.specs.declared.replay.RunFault.{RunFault}
use Rattle.edge_main.specs.declared.replay.RunFault.TheVariants as fault_of
use Rattle.trace_form.specs.Line.{line}
use Rattle.trace_form.specs.declared.output.LineParts.{LineParts}
use Rattle.edge_main.specs.Answered.{RunState, Answered, written_for, refused, put_in_force, turned_down, judged}
use Rattle.edge_main.specs.Output.{IsAnswered}
use Rattle.edge_main.specs.Output as answered
use Rattle.edge_main.specs.RunFaults.{run_fault}
use Rattle.edge_main.specs.Running.{RefusedFor, AnsweredDeployment, AnsweredLine, JudgedSo, TookSo, SpendsSo}
use Rattle.edge_main.specs.Running as deployed
use Rattle.edge_main.specs.Spent.{IsSpentOn}

-- what an Ok says, said in another way
pub OnOk-said : {T E : Type 0} (r : Result T E) (P Q : Type 0) → (P → Q) → OnOk r P → OnOk r Q
OnOk-said (Ok x) P Q f p = f p
OnOk-said (Err e) P Q f p = tt

-- a line that is too long is no item
pub long-no_item : (given : List ℕ) → 2 ^ 20 < length given → IsNoItem given cause.LongLine
long-no_item given long = no_item.long (lt-leb (length given) 1048576 long) refl

-- a deployment that was answered is a line that was
pub deployment-taken : (s : RunState) (given : List ℕ) (value : Data) (text : List ℕ) (after : Run) → IsDeploy given value
    → AnsweredDeployment s value text after → TookSo s given None text after
deployment-taken s given value text after h (deployed.taken config taken came) =
    (put_in_force s config, answered.deployment value config h taken refl, refl, came)
deployment-taken s given value text after h (deployed.no_deployment place why refusal came) =
    (turned_down s place why, answered.no_deployment value place why h refusal refl, refl, came)

-- what was refused for its cause is a line that was answered
pub refusal-taken : (s : RunState) (given : List ℕ) (f : LineFault) (text : List ℕ) (after : Run) → SaysWhy (IsNoItem given) f
    → RefusedFor f s text after → TookSo s given None text after
refusal-taken s given (fault.Bad why) text after none came = (refused s why, answered.bad why none refl, refl, came)
refusal-taken s given fault.Memory text after none came = absurd came

-- a request that was judged is a line that was taken
pub request-taken : (s : RunState) (given : List ℕ) (recorded : Recorded) (parts : LineParts) (text : List ℕ) (after : Run) → IsAsk given recorded
    → JudgedSo s recorded parts after → TookSo s given (Some parts) text after
request-taken s given recorded parts text after ask (listed, meaning, came) =
    (judged listed s recorded, answered.request recorded listed ask meaning refl, came)

-- what is written for a line is told by its kind
text_is : (s : RunState) (given : List ℕ) (this : Answered) → IsAnswered s given this → this.text ≡ written_for this.kind
text_is s given this (answered.blank blank is) = rw is refl
text_is s given this (answered.bad why none is) = rw is refl
text_is s given this (answered.deployment value config deploy taken is) = rw is refl
text_is s given this (answered.no_deployment value place why deploy refusal is) = rw is refl
text_is s given this (answered.request recorded listed ask meaning is) = rw is refl

-- a request that was taken and written is a line that was answered
pub request-answered : (s : RunState) (given : List ℕ) (parts : LineParts) (before text : List ℕ) (after : Run)
    → TookSo s given (Some parts) before after → text ≡ line parts → AnsweredLine s given text after
request-answered s given parts before text after (this, is, came) written =
    (this, is, (written ∙ sym (text_is s given this is ∙ ap written_for came.0), came.1))

-- another line that was taken was answered
pub other-answered : (s : RunState) (given text : List ℕ) (after : Run) → TookSo s given None text after → AnsweredLine s given text after
other-answered s given text after (this, is, other, came) = (this, is, came)

-- a step of it that was one too many
pub spent-on : (s : RunState) (given : List ℕ) (recorded : Recorded) → IsAsk given recorded → SpendsSo s recorded → IsSpentOn s given
spent-on s given recorded ask (listed, meaning, spent) =
    record { recorded = recorded; listed = listed; ask = ask; meaning = meaning; spent = spent }

-- a step that was refused ends no run for another reason
pub no_read : (f : StepFault) → ¬ (run_fault f ≡ fault_of.Read)
no_read step.Memory e = let never : fault_of.Memory ≡ fault_of.Read = e in cc
no_read step.Spent e = let never : fault_of.Spent ≡ fault_of.Read = e in cc

pub no_write : (f : StepFault) → ¬ (run_fault f ≡ fault_of.Write)
no_write step.Memory e = let never : fault_of.Memory ≡ fault_of.Write = e in cc
no_write step.Spent e = let never : fault_of.Spent ≡ fault_of.Write = e in cc

pub no_long : (f : StepFault) → ¬ (run_fault f ≡ fault_of.LongInput)
no_long step.Memory e = let never : fault_of.Memory ≡ fault_of.LongInput = e in cc
no_long step.Spent e = let never : fault_of.Spent ≡ fault_of.LongInput = e in cc
