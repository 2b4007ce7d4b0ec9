use Rattle.config_read.proofs.JudgedLemmas.{judges_read}
use Rattle.config_read.proofs.FilterLemmas.{typed_read}
use Rattle.type_check.specs.declared.typed.Typed.{Typed}
use Rattle.config_read.proofs.judging.judge.Goals as goal

pub returns-in-Ok-clause-answer : goal.returns-in-Ok-clause-answer
returns-in-Ok-clause-answer c =
    judges_read c.args.scheme.now c.args.at c.args.text.now c.in-Ok.tree c.checked.result c.in-Ok.ensures c.checked.ensures.answer

pub returns-in-Ok-clause-typed : goal.returns-in-Ok-clause-typed
returns-in-Ok-clause-typed c =
    typed_read (λ (typed : Typed). typed) c.args.scheme.now c.args.at c.args.text.now c.in-Ok.tree c.checked.result c.in-Ok.ensures c.checked.ensures.answer c.checked.ensures.typed
