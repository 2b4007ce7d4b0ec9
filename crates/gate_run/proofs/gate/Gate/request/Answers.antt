use Rattle.std.proofs.Common.{◌≡◌, inl, refl, sym, ◌∙◌, subst}
use mathlib.Core.List.{IsPrefix}
use Rattle.rate_plain.specs.declared.fault.StepFault.TheVariants as fault
use Rattle.version_store.specs.Books.{Learnt}
use Rattle.version_store.specs.Notices.{IsPicked}
use Rattle.gate_run.specs.Passes.{shape_in, known_to, due_to}
use Rattle.gate_run.proofs.SteppingLemmas.{refused_as}
use Rattle.gate_run.proofs.PickLemmas.{if_ok_any, picked_answers}
use Rattle.gate_run.proofs.gate.Gate.request.Goals as goal

pub returns-clause-same : goal.returns-clause-same
returns-clause-same g c =
    let same = c.request_in.ensures.same in record { caller = same.caller; book = same.book ∙ c.pick.ensures.book }

pub returns-clause-known : goal.returns-clause-known
returns-clause-known g c =
    subst (λ (reader : Learnt). IsPrefix (known_to c.args.pass.now) reader.known) (sym c.request_in.ensures.stays) c.pick.ensures.known

pub returns-clause-due : goal.returns-clause-due
returns-clause-due g c =
    subst (λ (reader : Learnt). IsPrefix (due_to c.args.pass.now) reader.due) (sym c.request_in.ensures.stays) c.pick.ensures.due

pub returns-clause-told : goal.returns-clause-told
returns-clause-told g c =
    if_ok_any c.request_in.result (IsPrefix (due_to c.args.pass.now) (known_to c.request_in.new.pass))
    (subst (λ (reader : Learnt). IsPrefix (due_to c.args.pass.now) reader.known) (sym c.request_in.ensures.stays) c.in_ok-picked.ensures.told)

pub returns-clause-answered : goal.returns-clause-answered
returns-clause-answered g c =
    let picked = c.in_ok-picked.picked in
    let is = subst (λ (reader : Learnt). IsPicked reader.known picked) (sym c.request_in.ensures.stays) c.in_ok-picked.ensures.picked in
    picked_answers (shape_in c.args.self.now) c.args.pass.now c.request_in.new.pass picked c.args.request c.request_in.result is
    c.request_in.ensures.answered

pub returns-in_err-picked-clause-answered : goal.returns-in_err-picked-clause-answered
returns-in_err-picked-clause-answered g c =
    refused_as c.from_residual.result fault.Memory _ _ c.from_residual.ensures.1 (inl (record { memory = refl; seen = refl }))
