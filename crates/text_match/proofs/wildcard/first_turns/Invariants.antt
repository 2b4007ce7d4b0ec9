-- first takes of what is left make first takes of the whole, and where there are none there, there are none at all
use Rattle.std.proofs.Common.{List, ℕ, ◌++◌, drop}
use Rattle.text_match.specs.Splits.{HasTurns, AreFirstTurns}
use Rattle.text_match.proofs.wildcard.first_turns.Given as goal

abbrev pub invariant-loop-piece : goal.invariant-loop-piece
invariant-loop-piece l =
    ((more : List (List ℕ)) → AreFirstTurns l.strict (drop l.piece-index l.pieces) l.rest more → AreFirstTurns l.strict l.pieces l.text (l.takes ++ more))
    × (HasTurns l.strict l.pieces l.text → HasTurns l.strict (drop l.piece-index l.pieces) l.rest)
