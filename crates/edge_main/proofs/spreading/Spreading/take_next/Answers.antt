use Rattle.std.proofs.Common.{[], refl, sym, subst}
use Rattle.std.proofs.lemmas.Result.{err_from_is_err_and}
use Rattle.edge_outside.specs.Lines.{lines_of}
use Rattle.edge_outside.specs.Reading.{Stands}
use Rattle.edge_main.specs.Spreading.{IsUnder}
use Rattle.edge_main.proofs.RunLemmas.{long-no_item}
use Rattle.edge_main.proofs.SpreadingLemmas.{keeps-same, keeps-either, stopped-step}
use Rattle.edge_main.proofs.spreading.Spreading.take_next.Goals as goal

pub returns-in_ok-take_line-in-Line-clause-turn : goal.returns-in_ok-take_line-in-Line-clause-turn
returns-in_ok-take_line-in-Line-clause-turn g c before now text (rest, stands, under) =
    let old = c.args.self.now in
    let given = (c.in-Line.ensures.lines rest stands).1 in
    let left = g.S.Source.left c.next.new.source in (
      given.rest,
      subst (λ reader. Stands reader left given.rest) (sym c.take_line.ensures.reader) given.after,
      c.in_ok-take_line-in-Line.ensures.takes before now text (lines_of given.rest)
          (subst (IsUnder old.crew before now old.pending text) given.is_first under),
    )

pub returns-in_ok-refuse-in-Long-clause-turn : goal.returns-in_ok-refuse-in-Long-clause-turn
returns-in_ok-refuse-in-Long-clause-turn g c before now text (rest, stands, under) =
    let old = c.args.self.now in
    let said = c.in-Long.ensures.lines rest stands in
    let given = said.2 in
    let left = g.S.Source.left c.next.new.source in (
      given.rest,
      subst (λ reader. Stands reader left given.rest) (sym c.refuse.ensures.reader) given.after,
      c.in_ok-refuse-in-Long.ensures.takes said.0 (long-no_item said.0 said.1) before now text (lines_of given.rest)
          (subst (IsUnder old.crew before now old.pending text) given.is_first under),
    )

pub returns-in-End-clause-turn : goal.returns-in-End-clause-turn
returns-in-End-clause-turn g c before now text (rest, stands, under) =
    let old = c.args.self.now in
    c.in_ok-settle-in-End.ensures.settles before now text []
    (subst (λ r. IsUnder old.crew before now old.pending text (lines_of r)) (c.in-End.ensures.lines rest stands).0 under)

pub returns-in-Fault-clause-turn : goal.returns-in-Fault-clause-turn
returns-in-Fault-clause-turn g c before now text (rest, stands, under) =
    keeps-either c.settle-in-Fault.result c.args.self.now c.settle-in-Fault.new.self c.settle-in-Fault.ensures.settles
    c.settle-in-Fault.ensures.err before now text (lines_of rest) under

pub returns-in-LongInput-clause-turn : goal.returns-in-LongInput-clause-turn
returns-in-LongInput-clause-turn g c before now text (rest, stands, under) =
    keeps-either c.settle-in-LongInput.result c.args.self.now c.settle-in-LongInput.new.self c.settle-in-LongInput.ensures.settles
    c.settle-in-LongInput.ensures.err before now text (lines_of rest) under

pub returns-in_err-take_line-in-Line-clause-turn : goal.returns-in_err-take_line-in-Line-clause-turn
returns-in_err-take_line-in-Line-clause-turn g c before now text (rest, stands, under) =
    let is = err_from_is_err_and c.from_residual.result c.from_residual.ensures.1 in
    rw (is.1, is.2)
    (stopped-step c.in_err-take_line-in-Line.field-0.0 before now c.take_line.new.self.pending text
    (c.in_err-take_line-in-Line.ensures.err before now text (lines_of rest) under))

pub returns-in_err-refuse-in-Long-clause-turn : goal.returns-in_err-refuse-in-Long-clause-turn
returns-in_err-refuse-in-Long-clause-turn g c before now text (rest, stands, under) =
    let is = err_from_is_err_and c.from_residual-in_err-refuse-in-Long.result c.from_residual-in_err-refuse-in-Long.ensures.1 in
    rw (is.1, is.2)
    (stopped-step c.in_err-refuse-in-Long.field-0.0 before now c.refuse.new.self.pending text
    (c.in_err-refuse-in-Long.ensures.err before now text (lines_of rest) under))

pub returns-in_err-settle-in-End-clause-turn : goal.returns-in_err-settle-in-End-clause-turn
returns-in_err-settle-in-End-clause-turn g c before now text (rest, stands, under) =
    let new = c.settle.new.self in
    let is = err_from_is_err_and c.from_residual-in_err-settle-in-End.result c.from_residual-in_err-settle-in-End.ensures.1 in
    rw (is.1, is.2)
    (stopped-step c.in_err-settle-in-End.field-0.0 before now new.pending text
    (keeps-same c.args.self.now new c.in_err-settle-in-End.ensures.err before now text (lines_of rest) under))
