use Rattle.type_check.specs.declared.fault.Place.TheVariants as stand
use Rattle.config_read.proofs.JudgedLemmas.{judges_read}
use Rattle.config_read.proofs.FilterLemmas.{typed_read}
use Rattle.std.specs.Prelude.{Bool}
use Rattle.type_check.specs.declared.typed.Typed.{Typed}
use Rattle.config_read.proofs.judging.judge_counting.Goals as goal

pub returns-in-Ok-clause-answer : goal.returns-in-Ok-clause-answer
returns-in-Ok-clause-answer c =
    judges_read c.args.scheme.now stand.Count c.args.text.now c.in-Ok.tree c.checked_counting.result c.in-Ok.ensures c.checked_counting.ensures.answer

pub returns-in-Ok-clause-typed : goal.returns-in-Ok-clause-typed
returns-in-Ok-clause-typed c =
    typed_read (λ (made : Typed × Bool). made.0) c.args.scheme.now stand.Count c.args.text.now c.in-Ok.tree c.checked_counting.result c.in-Ok.ensures c.checked_counting.ensures.answer c.checked_counting.ensures.typed
