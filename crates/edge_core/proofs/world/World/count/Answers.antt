use Rattle.std.proofs.Common.{◌≡◌, ℕ, List, ◌∷◌, [], ◌++◌, Option, None, Some, Ok, Err, option_and_then, option_copied, slice_get, refl, sym, ap, subst, ◌∙◌}
use Rattle.rate_plain.specs.History.{entry_of}
use Rattle.rate_plain.specs.declared.fault.StepFault.TheVariants as fault
use Rattle.edge_core.specs.Stands.{asked_now, terms_of}
use Rattle.edge_core.specs.declared.caller.Caller.{Caller}
use Rattle.edge_core.proofs.CountLemmas.{nothing_asked, none_spends, has_asked, spends, answered_so, taken_then_left, left_for}
use Rattle.edge_core.proofs.FaultLemmas.{if_err_from, fault_is}
use Rattle.edge_core.proofs.PlaceLemmas.{none_of}
use Rattle.edge_core.proofs.world.World.count.Goals as goal

pub returns-in_default-clause-ok : goal.returns-in_default-clause-ok
returns-in_default-clause-ok g c lanes cap parts is =
    let asks = c.asked_at.ensures ∙ ap (λ (ones : List Caller). option_and_then asked_now (slice_get ones c.args.caller)) c.deref.ensures.value in
    let none = sym asks ∙ ap option_copied (none_of c.asked_at.result c.in_default.not-Some) in
    nothing_asked g.T.Tally.stands (terms_of g.meaning lanes cap) c.args.self.now parts c.args.caller is c.args.self.now none refl

pub returns-in_default-clause-spent : goal.returns-in_default-clause-spent
returns-in_default-clause-spent g c lanes cap parts is =
    let asks = c.asked_at.ensures ∙ ap (λ (ones : List Caller). option_and_then asked_now (slice_get ones c.args.caller)) c.deref.ensures.value in
    let none = sym asks ∙ ap option_copied (none_of c.asked_at.result c.in_default.not-Some) in (
      λ same. absurd (cc),
      λ spent. absurd (none_spends g.T.Tally.stands (terms_of g.meaning lanes cap) c.args.self.now parts c.args.caller is none spent),
    )

pub returns-in-Err-clause-err : goal.returns-in-Err-clause-err
returns-in-Err-clause-err g c lanes cap parts is =
    let asks = c.asked_at.ensures ∙ ap (λ (ones : List Caller). option_and_then asked_now (slice_get ones c.args.caller)) c.deref.ensures.value in
    let asked = sym asks ∙ ap option_copied c.in-Some.is in
    let tally = subst (λ t. g.T.Tally.stands t lanes cap parts.history) (sym c.put_back.ensures.tally) (c.in-Err.ensures.answers lanes cap parts.history is.tally) in
    left_for g.T.Tally.stands (terms_of g.meaning lanes cap) c.args.self.now parts c.args.caller is c.in-Some.ask.now asked c.put_back.new.self c.in-Err.why
    tally c.put_back.ensures.version c.put_back.ensures.callers

pub returns-in-Err-clause-spent : goal.returns-in-Err-clause-spent
returns-in-Err-clause-spent g c lanes cap parts is =
    let asks = c.asked_at.ensures ∙ ap (λ (ones : List Caller). option_and_then asked_now (slice_get ones c.args.caller)) c.deref.ensures.value in
    let asked = sym asks ∙ ap option_copied c.in-Some.is in
    let full = c.in-Err.ensures.spent lanes cap parts.history is.tally in (
      λ same. spends g.T.Tally.stands (terms_of g.meaning lanes cap) c.args.self.now parts c.args.caller is c.in-Some.ask.now asked
          (full.0 (ap Err (fault_is (Err c.in-Err.why) c.in-Err.why fault.Spent refl same))),
      λ spent. ap Err (fault_is (Err c.in-Err.why) c.in-Err.why fault.Spent refl (full.1 spent.1)),
    )

pub answer-requires : goal.answer-requires
answer-requires g c lives within =
    let (mine, (lanes, cap, parts, is)) = c.requires in
    let asks = c.asked_at.ensures ∙ ap (λ (ones : List Caller). option_and_then asked_now (slice_get ones c.args.caller)) c.deref.ensures.value in
    let asked = sym asks ∙ ap option_copied c.in-Some.is in
    (within, has_asked g.T.Tally.stands (terms_of g.meaning lanes cap) c.args.self.now parts c.args.caller is c.in-Some.ask.now asked)

pub returns-in_err-answer-clause-err : goal.returns-in_err-answer-clause-err
returns-in_err-answer-clause-err g c =
    let asks = c.asked_at.ensures ∙ ap (λ (ones : List Caller). option_and_then asked_now (slice_get ones c.args.caller)) c.deref.ensures.value in
    let asked = sym asks ∙ ap option_copied c.in-Some.is in
    if_err_from c.from_residual.result fault.Memory _ c.from_residual.ensures.1 (λ lanes cap parts is.
    let ask = c.in-Some.ask.now in
    let took = c.in-Ok.ensures.answers lanes cap parts.history is.tally in
    let tally = subst (λ t. g.T.Tally.stands t lanes cap (parts.history ++ entry_of lanes cap parts.history c.args.caller ask ∷ [])) (sym c.answer.ensures.tally) took.1 in
    taken_then_left g.T.Tally.stands (terms_of g.meaning lanes cap) c.args.self.now parts c.args.caller is ask asked c.answer.new.self tally
    c.answer.ensures.version c.in_err-answer.ensures.err)

pub returns-clause-ok : goal.returns-clause-ok
returns-clause-ok g c lanes cap parts is =
    let asks = c.asked_at.ensures ∙ ap (λ (ones : List Caller). option_and_then asked_now (slice_get ones c.args.caller)) c.deref.ensures.value in
    let asked = sym asks ∙ ap option_copied c.in-Some.is in
    let ask = c.in-Some.ask.now in
    let took = c.in-Ok.ensures.answers lanes cap parts.history is.tally in
    let tally = subst (λ t. g.T.Tally.stands t lanes cap (parts.history ++ entry_of lanes cap parts.history c.args.caller ask ∷ [])) (sym c.answer.ensures.tally) took.1 in
    answered_so g.T.Tally.stands (terms_of g.meaning lanes cap) c.args.self.now parts c.args.caller is ask asked c.answer.new.self c.in-Ok.answer
    c.length-position.result took.0 tally (c.length-position.ensures lanes cap parts.history is.tally) c.answer.ensures.version c.in_ok-answer.ensures.ok
