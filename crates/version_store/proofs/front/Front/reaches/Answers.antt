use Rattle.std.proofs.Common.{◌≤◌, ap, subst, arith, length, List}
use Rattle.std.proofs.lemmas.Bool.Decides.{nat_tests}
use mathlib.Core.List.{IsPrefix}
use Rattle.version_store.specs.declared.notice.Notice.{Notice}
use Rattle.version_store.proofs.Fronts.{prefix_shorter}
use Rattle.version_store.proofs.front.Front.reaches.Goals as goal

pub returns-clause-reaches : goal.returns-clause-reaches
returns-clause-reaches c = λ reached.
    let both = c.learn.new.self.log in
    let mine = c.self.invariant in
    let others = c.other.invariant in
    let this : IsPrefix c.self.inside.seen.log both = subst (λ (l : List Notice). IsPrefix l both) (ap (λ s. s.log) c.again-both.ensures) c.learn.ensures.2 in
    let less : length c.other.inside.seen.log ≤ length c.self.inside.seen.log = grind (arith, nat_tests, mine, others, reached) in
    rw (← c.self.view_is, ← c.other.view_is) (prefix_shorter c.other.inside.seen.log c.self.inside.seen.log both c.learn.ensures.3 this less)

pub returns-clause-behind : goal.returns-clause-behind
returns-clause-behind c = λ behind.
    let both = c.learn.new.self.log in
    let mine = c.self.invariant in
    let others = c.other.invariant in
    let this : IsPrefix c.self.inside.seen.log both = subst (λ (l : List Notice). IsPrefix l both) (ap (λ s. s.log) c.again-both.ensures) c.learn.ensures.2 in
    let less : length c.self.inside.seen.log ≤ length c.other.inside.seen.log = grind (arith, nat_tests, mine, others, behind) in
    rw (← c.self.view_is, ← c.other.view_is) (prefix_shorter c.self.inside.seen.log c.other.inside.seen.log both this c.learn.ensures.3 less)
