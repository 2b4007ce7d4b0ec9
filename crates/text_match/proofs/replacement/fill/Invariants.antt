-- the text so far stands before what is left, filled, which gets shorter
use Rattle.std.proofs.Common.{◌≡◌, ◌++◌, length}
use Rattle.text_match.specs.Replacement.{filled}
use Rattle.text_match.proofs.replacement.fill.Given as goal

abbrev pub invariant-loop-piece : goal.invariant-loop-piece
invariant-loop-piece l = l.text ++ filled l.parts l.rest ≡ filled l.parts l.replacement

abbrev pub decreases-loop-piece : goal.decreases-loop-piece
decreases-loop-piece l = length l.rest
