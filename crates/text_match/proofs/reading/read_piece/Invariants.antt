-- the piece so far stands before the first piece of what is left, which gets shorter
use Rattle.std.proofs.Common.{◌≡◌, ◌≤◌, length}
use Rattle.text_match.specs.Wildcards.{pieces_of}
use Rattle.text_match.proofs.Pieces.{after_start}
use Rattle.text_match.proofs.reading.read_piece.Given as goal

abbrev pub invariant-loop-mark : goal.invariant-loop-mark
invariant-loop-mark l = (after_start l.piece (pieces_of l.rest) ≡ pieces_of l.pattern) × (length l.rest ≤ length l.pattern)

abbrev pub decreases-loop-mark : goal.decreases-loop-mark
decreases-loop-mark l = length l.rest
