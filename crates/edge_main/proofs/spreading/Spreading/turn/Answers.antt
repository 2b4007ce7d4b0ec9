use Rattle.std.proofs.lemmas.Result.{err_from_is_err_and}
use Rattle.edge_main.proofs.SpreadingLemmas.{turn-left, turn-settled, turn-written, turn-front}
use Rattle.edge_main.proofs.EndingLemmas.{written-or-whole}
use Rattle.edge_main.proofs.spreading.Spreading.turn.Goals as goal

pub returns-in-Ok-clause-turn : goal.returns-in-Ok-clause-turn
returns-in-Ok-clause-turn g c before text p =
    let now = g.K.Sink.got c.args.out.now in
    let left = g.S.Source.left c.take_next.new.input in
    let mid = c.take_next.new.self in
    let new = c.settle_due.new.self in
    let wrote = c.in-Ok.ensures.ok in
    turn-written c.in_ok-turn.turn new.crew new.reader left before now (g.K.Sink.got c.write_piece.new.out) new.pending
    c.write_piece.new.pending wrote.0 text
    (turn-settled c.in_ok-turn.turn mid new left before now text c.settle_due.ensures.reader c.in_ok-settle_due.ensures.under
    c.in_ok-settle_due.ensures.settled (c.in_ok-turn.ensures.turn before now text p))
    wrote.1 wrote.2

pub returns-in-Err-clause-turn : goal.returns-in-Err-clause-turn
returns-in-Err-clause-turn g c before text p =
    let now = g.K.Sink.got c.args.out.now in
    let left = g.S.Source.left c.take_next.new.input in
    let mid = c.take_next.new.self in
    let new = c.settle_due.new.self in
    let cut = c.in-Err.ensures.err in
    turn-front c.in_ok-turn.turn new.crew new.reader left before now (g.K.Sink.got c.write_piece.new.out) new.pending text
    (turn-settled c.in_ok-turn.turn mid new left before now text c.settle_due.ensures.reader c.in_ok-settle_due.ensures.under
    c.in_ok-settle_due.ensures.settled (c.in_ok-turn.ensures.turn before now text p))
    cut.0 cut.1

pub returns-in_err-settle_due-clause-turn : goal.returns-in_err-settle_due-clause-turn
returns-in_err-settle_due-clause-turn g c before text p =
    let f = c.in_err-settle_due.field-0.0 in
    let is = err_from_is_err_and c.from_residual-in_err-settle_due.result c.from_residual-in_err-settle_due.ensures.1 in
    let mid = c.take_next.new.self in
    rw (is.1, is.2)
    (turn-left f c.in_ok-turn.turn mid c.settle_due.new.self mid.reader (g.S.Source.left c.take_next.new.input) before
    (g.K.Sink.got c.args.out.now) text c.in_err-settle_due.ensures.err
    (c.in_ok-turn.ensures.turn before (g.K.Sink.got c.args.out.now) text p))

pub returns-in-Ok-clause-at_once : goal.returns-in-Ok-clause-at_once
returns-in-Ok-clause-at_once g c =
    written-or-whole c.holds_line-due.result c.write_piece.new.pending c.take_next.new.self.reader c.settle_due.new.self.reader
    c.settle_due.ensures.reader c.holds_line-due.ensures c.in-Ok.ensures.due
