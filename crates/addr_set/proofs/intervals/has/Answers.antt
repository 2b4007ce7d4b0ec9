use Rattle.std.proofs.Common.{sym, ◌∙◌, arith}
use Rattle.std.proofs.lemmas.Bool.{le-ltb}
use Rattle.addr_set.proofs.IntervalLemmas.{has-none, has-last}
use Rattle.addr_set.proofs.intervals.has.Goals as goal

pub returns-then-begun-gt0 : goal.returns-then-begun-gt0
returns-then-begun-gt0 c =
    sym (has-last c.args.intervals.now c.args.number c.begun-begun.result (record { first = 0; last = 0 }) c.requires c.if-begun-gt0.true c.begun-begun.ensures.within c.begun-begun.ensures.before c.begun-begun.ensures.after)

pub returns-else-begun-gt0 : goal.returns-else-begun-gt0
returns-else-begun-gt0 c =
    le-ltb 0 c.begun-begun.result c.if-begun-gt0.false
    ∙ sym (has-none c.args.intervals.now c.args.number (λ k d low high. c.begun-begun.ensures.after k d (omega arith) high))
