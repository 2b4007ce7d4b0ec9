use Rattle.std.proofs.Common.{Err, refl, sym, ap, subst}
use Rattle.std.proofs.lemmas.Result.{err_from_is_err_and}
use Rattle.trace_form.specs.declared.refusal.BadCause.TheVariants as cause
use Rattle.edge_main.specs.Answered.{refused}
use Rattle.edge_outside.specs.Reading.{Stands, line_of}
use Rattle.edge_main.specs.Running.{Reached}
use Rattle.edge_main.proofs.RunningLemmas.{reached-line, stopped-step, begun-stands}
use Rattle.edge_main.proofs.RunLemmas.{no_read, no_write, no_long}
use Rattle.edge_main.proofs.replay.Replay.take_next.Goals as goal

pub returns-in-End-clause-turn : goal.returns-in-End-clause-turn
returns-in-End-clause-turn g c before now text (to, rest, at, stands, reached) =
    (to, at, subst (Reached to before now c.args.self.now.pending text) (c.in-End.ensures.lines rest stands).0 reached)

pub returns-in-Fault-clause-turn : goal.returns-in-Fault-clause-turn
returns-in-Fault-clause-turn g c before now text (to, rest, at, stands, reached) = (
  rest,
  to,
  reached,
  begun-stands c.next.new.self (g.S.Source.left c.next.new.source) rest (c.in-Fault.ensures.lines rest stands) (c.in-Fault.ensures.in_line refl),
)

pub returns-in_ok-take_line-in-Line-clause-turn : goal.returns-in_ok-take_line-in-Line-clause-turn
returns-in_ok-take_line-in-Line-clause-turn g c before now text (to, rest, at, stands, reached) =
    let given = (c.in-Line.ensures.lines rest stands).1 in
    let left = g.S.Source.left c.next.new.source in
    let (this, is, at_this, same) = c.in_ok-take_line-in-Line.ensures.ok to at in (
      this.after,
      given.rest,
      at_this,
      subst (λ reader. Stands reader left given.rest) (sym c.take_line.ensures.reader) given.after,
      reached-line to before now c.args.self.now.pending c.take_line.new.self.pending text rest given.rest (line_of c.next.new.self) this
          reached given.is_first is same,
    )

pub returns-in_ok-take_line-in-Line-clause-somewhere : goal.returns-in_ok-take_line-in-Line-clause-somewhere
returns-in_ok-take_line-in-Line-clause-somewhere g c next =
    let (s, at) = c.requires.somewhere in
    let (this, is, at_this, same) = c.in_ok-take_line-in-Line.ensures.ok s at in (this.after, at_this)

pub returns-in_ok-take_long-in-Long-clause-turn : goal.returns-in_ok-take_long-in-Long-clause-turn
returns-in_ok-take_long-in-Long-clause-turn g c before now text (to, rest, at, stands, reached) =
    let said = c.in-Long.ensures.lines rest stands in
    let given = said.2 in
    let left = g.S.Source.left c.next.new.source in
    let (this, is, at_this, same) = c.in_ok-take_long-in-Long.ensures.ok said.0 said.1 to at in (
      this.after,
      given.rest,
      at_this,
      subst (λ reader. Stands reader left given.rest) (sym c.take_long.ensures.reader) given.after,
      reached-line to before now c.args.self.now.pending c.take_long.new.self.pending text rest given.rest said.0 this reached given.is_first is same,
    )

pub returns-in_ok-take_long-in-Long-clause-somewhere : goal.returns-in_ok-take_long-in-Long-clause-somewhere
returns-in_ok-take_long-in-Long-clause-somewhere g c next =
    let (s, at) = c.requires.somewhere in
    ((refused s cause.LongLine).after, c.in_ok-take_long-in-Long.ensures.refused s at)

pub returns-in_err-take_line-in-Line-clause-turn : goal.returns-in_err-take_line-in-Line-clause-turn
returns-in_err-take_line-in-Line-clause-turn g c before now text (to, rest, at, stands, reached) =
    let given = (c.in-Line.ensures.lines rest stands).1 in
    let f = c.in_err-take_line-in-Line.field-0.0 in
    let p = err_from_is_err_and c.from_residual.result c.from_residual.ensures.1 in
    rw (p.1, p.2)
    (stopped-step f to (g.S.Source.left c.next.new.source) before now c.args.self.now.pending c.take_line.new.self.pending text rest given.rest
    (line_of c.next.new.self) reached given.is_first c.in_err-take_line-in-Line.ensures.err
    (λ is. c.in_err-take_line-in-Line.ensures.spent (ap Err is) to at))
