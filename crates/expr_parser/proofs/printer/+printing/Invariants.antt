use Rattle.std.proofs.Common.{◌≡◌, ◌++◌, map, take}
use Rattle.expr_parser.specs.Spelling.{joined, spelling_at}
use Rattle.expr_parser.proofs.printer.+printing.Given as goal

-- the members before the next one are written
abbrev pub invariant-push_joined-loop-at : goal.invariant-push_joined-loop-at
invariant-push_joined-loop-at l = l.out ≡ l.fn.out ++ joined l.joint l.tightness (map spelling_at (take l.at l.members))
