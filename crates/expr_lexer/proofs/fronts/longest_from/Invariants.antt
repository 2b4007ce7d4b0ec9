use Rattle.std.proofs.Common.{◌≡◌, drop, None}
use Rattle.expr_lexer.specs.Fronts.{best_from}
use Rattle.expr_lexer.proofs.fronts.longest_from.Given as goal

-- what is left goes on from the best so far
abbrev pub invariant-loop-index : goal.invariant-loop-index
invariant-loop-index l = best_from l.state (drop l.index l.text) l.index l.best ≡ best_from l.fn.start l.text 0 None
