use Rattle.edge_main.proofs.RunningLemmas.{turn-written, turn-cut}
use Rattle.edge_main.proofs.replay.Replay.turn.Goals as goal

pub returns-in-Ok-clause-turn : goal.returns-in-Ok-clause-turn
returns-in-Ok-clause-turn g c before text p =
    let now = g.K.Sink.got c.args.out.now in
    let wrote = c.in-Ok.ensures.ok in
    let run = c.take_next.new.self in
    turn-written c.in_ok-turn.turn run.run run.reader (g.S.Source.left c.take_next.new.input) before now (g.K.Sink.got c.write_piece.new.out)
    run.pending c.write_piece.new.pending wrote.0 text (c.in_ok-turn.ensures.turn before now text p) wrote.1 wrote.2

pub returns-in-Err-clause-turn : goal.returns-in-Err-clause-turn
returns-in-Err-clause-turn g c before text p =
    let now = g.K.Sink.got c.args.out.now in
    let cut = c.in-Err.ensures.err in
    let run = c.take_next.new.self in
    turn-cut c.in_ok-turn.turn run.run run.reader (g.S.Source.left c.take_next.new.input) before now (g.K.Sink.got c.write_piece.new.out)
    run.pending text (c.in_ok-turn.ensures.turn before now text p) cut.0 cut.1
