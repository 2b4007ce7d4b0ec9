-- what is left has the other pieces, and gets shorter
use Rattle.std.proofs.Common.{◌≡◌, ℕ, ◌+◌, List, ◌++◌, length, Option, None, Some, Bor}
use Rattle.text_match.specs.Marks.{pieces_left}
use Rattle.text_match.proofs.wildcard.read_later.Given as goal

-- how long what is left is, where an empty pattern counts too
abbrev left_len : Option (Bor (List ℕ)) → ℕ
left_len None = 0
left_len (Some pattern) = length pattern.now + 1

abbrev pub invariant-loop-rest : goal.invariant-loop-rest
invariant-loop-rest l = l.later ++ pieces_left l.rest ≡ pieces_left l.fn.rest

abbrev pub decreases-loop-rest : goal.decreases-loop-rest
decreases-loop-rest l = left_len l.rest
