-- what is left matches exactly where the whole does
use Rattle.std.proofs.Common.{◌↔◌, drop}
use Rattle.text_match.specs.Splits.{HasTurns}
use Rattle.text_match.proofs.wildcard.has_turns.Given as goal

abbrev pub invariant-loop-piece : goal.invariant-loop-piece
invariant-loop-piece l = HasTurns l.strict (drop l.piece-index l.pieces) l.rest ↔ HasTurns l.strict l.pieces l.text
