use Rattle.std.proofs.Common.{◌≡◌, ◌++◌, reverse, length}
use Rattle.edge_main.specs.Batched.{joined}
use Rattle.edge_main.proofs.batch.push_all.Given as goal

-- what was added and the texts that are left make the whole
abbrev pub invariant-lines : goal.invariant-lines
invariant-lines l = l.out ++ joined (reverse l.lines.items) ≡ l.fn.out ++ joined (reverse l.fn.lines.items)

abbrev pub decreases-lines : goal.decreases-lines
decreases-lines l = length l.lines.items
