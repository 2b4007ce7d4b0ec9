use Rattle.std.proofs.Common.{◌++◌, Option, ap, subst, ◌∙◌}
use Rattle.trace_form.specs.Line.{line}
use Rattle.trace_form.specs.declared.output.LineParts.{LineParts}
use Rattle.edge_main.specs.Running.{TookSo}
use Rattle.edge_main.proofs.RunLemmas.{request-answered, other-answered}
use Rattle.edge_main.proofs.run.Run.answer.Goals as goal

pub returns-in_ok-push_line-in-Some-clause-answered : goal.returns-in_ok-push_line-in-Some-clause-answered
returns-in_ok-push_line-in-Some-clause-answered c s at =
    let took = subst (λ (parts : Option LineParts). TookSo s c.args.given.now parts c.take.new.answer c.take.new.self) c.in-Some.is (c.in_ok-parts.ensures.took s at) in
    request-answered s c.args.given.now c.in-Some.parts c.take.new.answer _ c.take.new.self took
    (c.in_ok-push_line-in-Some.ensures.ok ∙ ap (λ text. text ++ line c.in-Some.parts) c.clear.ensures)

pub returns-in-None-clause-answered : goal.returns-in-None-clause-answered
returns-in-None-clause-answered c s at =
    let took = subst (λ (parts : Option LineParts). TookSo s c.args.given.now parts c.take.new.answer c.take.new.self) c.in-None.is (c.in_ok-parts.ensures.took s at) in
    other-answered s c.args.given.now _ c.take.new.self took
