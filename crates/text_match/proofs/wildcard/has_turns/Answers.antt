-- Each first split keeps whether the whole matches, and the last piece decides it at the end.
use Rattle.std.proofs.Common.{◌+◌, ◌-◌, ◌<◌, length, drop, length-take-le, refl, subst, sym, arith}
use Rattle.std.proofs.lemmas.Bool.{false≢true}
use Rattle.text_match.specs.Splits.{HasTurns}
use Rattle.text_match.proofs.TurnLemmas.{no_turns, drop_middle, drop_last, turns_forward, turns_back, end_decides}
use Rattle.text_match.proofs.wildcard.has_turns.Goals as goal

pub loop-piece-preserved : goal.loop-piece-preserved
loop-piece-preserved c =
    let pieces = c.args.pieces.now in let i = c.loop-piece.piece-index in let piece = c.piece-item.result in
    let size = length-take-le (length pieces - 1) pieces (omega arith) in
    let below : i < length pieces - 1 = omega arith in
    let is = drop_middle pieces i piece c.piece-item.result _ below refl c.piece-item.is in (
      λ has. c.loop-piece.invariant.0 (turns_back c.args.strict pieces i piece c.loop-piece.rest.now c.in-Some.split.before.now c.in-Some.split.after.now is c.in-Some.ensures has),
      λ has. turns_forward c.args.strict pieces i piece c.loop-piece.rest.now c.in-Some.split.before.now c.in-Some.split.after.now below is c.in-Some.ensures (c.loop-piece.invariant.1 has),
    )

pub returns-in-None : goal.returns-in-None
returns-in-None c =
    let pieces = c.args.pieces.now in let i = c.loop-piece.piece-index in let piece = c.piece-item.result in
    let size = length-take-le (length pieces - 1) pieces (omega arith) in
    let is = drop_middle pieces i piece c.piece-item.result _ (omega arith) refl c.piece-item.is in (
      λ yes. absurd (false≢true yes),
      λ has. absurd (no_turns c.args.strict piece (drop (i + 1) pieces) c.loop-piece.rest.now c.in-None.ensures (subst (λ ps. HasTurns c.args.strict ps c.loop-piece.rest.now) is (c.loop-piece.invariant.1 has))),
    )

pub returns : goal.returns
returns c =
    let pieces = c.args.pieces.now in let i = c.loop-piece.piece-index in let piece = c.bytes.result.now in
    let size = length-take-le (length pieces - 1) pieces (omega arith) in
    let is = drop_last pieces i piece c.last-item.result _ (omega arith) c.bytes.ensures c.last-item.is in
    let end = end_decides c.args.strict piece c.loop-piece.rest.now c.before_end.result c.is_some.result c.is_some.ensures c.before_end.ensures in (
      λ yes. c.loop-piece.invariant.0 (subst (λ ps. HasTurns c.args.strict ps c.loop-piece.rest.now) (sym is) (end.0 yes)),
      λ has. end.1 (subst (λ ps. HasTurns c.args.strict ps c.loop-piece.rest.now) is (c.loop-piece.invariant.1 has)),
    )
