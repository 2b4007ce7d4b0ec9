-- A request that was judged in a version which its pass picked.
use Rattle.std.proofs.Common.{◌≡◌, ℕ, Result, Ok, Err, IfOk, inr, sym, subst₂}
use Rattle.std.specs.Arc.{arc_value}
use Rattle.edge_base.specs.declared.message.Request.{Request}
use Rattle.rate_plain.specs.declared.fault.StepFault.{StepFault}
use Rattle.rate_shared.specs.declared.rule.Shape.{Shape}
use Rattle.ruleset_model.specs.ConfigParts.{ConfigParts}
use Rattle.ruleset_model.specs.declared.picked.Picked.{Picked}
use Rattle.version_store.specs.Notices.{IsVersion, IsPicked}
use Rattle.gate_run.specs.Passes.{known_to}
use Rattle.gate_run.specs.Promises.{AnsweredIn, AnswersIn, AnswersBy}
use Rattle.gate_run.specs.declared.passes.Answered.{Answered}
use Rattle.gate_run.specs.declared.passes.Pass.{Pass}

pub if_ok_any : {T E : Type 0} (r : Result T E) (P : Type 0) → P → IfOk r (λ _. P)
if_ok_any (Ok value) P p = p
if_ok_any (Err e) P p = tt

pub picked_answers : (shape : Shape) (before after : Pass) (picked : Picked) (request : Request) (result : Result Answered StepFault)
    → IsPicked (known_to after) picked → AnswersIn shape before.seen after.seen picked request result → AnswersBy shape before after request result
picked_answers shape before after picked request (Ok answered) is told = record {
  stop = picked.stopped;
  picked = subst₂ (λ (number : ℕ) (config : ConfigParts). IsVersion (known_to after) number picked.stopped config) (sym told.version) (sym told.its_config) is;
  answered_in =
      subst₂ (λ (number : ℕ) (config : ConfigParts). AnsweredIn shape before.seen after.seen number config request answered) (sym told.version) (sym told.its_config) told;
}
picked_answers shape before after picked request (Err why) is told = inr record {
  number = picked.number;
  stop = picked.stopped;
  config = arc_value picked.config;
  picked = is;
  stopped_in = told;
}
