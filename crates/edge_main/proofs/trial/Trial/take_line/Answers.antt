use Rattle.std.proofs.Common.{◌≡◌, ◌≤◌, ◌^◌, Option, subst, refl, arith}
use Rattle.trace_form.specs.declared.output.LineParts.{LineParts}
use Rattle.edge_main.specs.Running.{TookSo}
use Rattle.edge_main.specs.Summary.{requests_of}
use Rattle.edge_main.proofs.TalkedLemmas.{same_fault}
use Rattle.edge_main.proofs.TrialLemmas.{tried_other, tried_request, request_fits}
use Rattle.edge_main.proofs.trial.Trial.take_line.Goals as goal

pub take-requires-clause-somewhere : goal.take-requires-clause-somewhere
take-requires-clause-somewhere c =
    let (lines, (to, t)) = c.requires.so in
    (to, t.come)

pub add-requires-clause-requests : goal.add-requires-clause-requests
add-requires-clause-requests c =
    let (lines, (to, t)) = c.requires.so in
    let few = t.few_requests in
    let come = t.come.lines in
    let low = c.requires.lines in
    omega (arith, few, come, low)

pub add-requires-clause-full : goal.add-requires-clause-full
add-requires-clause-full c =
    let (lines, (to, t)) = c.requires.so in
    let took = subst (λ (parts : Option LineParts). TookSo to c.args.line.now parts c.take.new.answer c.take.new.self) c.in-Some.is (c.in_ok-parts.ensures.took to t.come) in
    let fits = request_fits c.args.self.now c.take.new.self lines c.args.line.now c.take.new.answer to c.in-Some.parts t took in
    omega (arith, fits)

pub returns-in_ok-add-in-Some-clause-tries : goal.returns-in_ok-add-in-Some-clause-tries
returns-in_ok-add-in-Some-clause-tries c lines (to, t) =
    let took = subst (λ (parts : Option LineParts). TookSo to c.args.line.now parts c.take.new.answer c.take.new.self) c.in-Some.is (c.in_ok-parts.ensures.took to t.come) in
    let added = c.in_ok-add-in-Some.ensures in
    tried_request c.args.self.now _ lines c.args.line.now c.take.new.answer to c.in-Some.parts t took (added.counts (requests_of t.run) t.counted) added.requests added.full

pub returns-in-None-clause-tries : goal.returns-in-None-clause-tries
returns-in-None-clause-tries c lines (to, t) =
    let took = subst (λ (parts : Option LineParts). TookSo to c.args.line.now parts c.take.new.answer c.take.new.self) c.in-None.is (c.in_ok-parts.ensures.took to t.come) in
    tried_other c.args.self.now _ lines c.args.line.now c.take.new.answer to t took refl

pub returns-in_err-parts-clause-spent : goal.returns-in_err-parts-clause-spent
returns-in_err-parts-clause-spent c is lines to t =
    c.in_err-parts.ensures.spent (same_fault c.from_residual.result _ c.from_residual.ensures.1 is) to t.come
