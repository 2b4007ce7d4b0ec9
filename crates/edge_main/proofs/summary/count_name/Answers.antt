use Rattle.std.proofs.Common.{◌≡◌, ℕ, List, ◌++◌, take, drop, length, slice_index_or, sym, ap, ap₂, subst₂, ◌∙◌, arith}
use Rattle.std.specs.Cmp.Lexicographic.{slice_cmp}
use Rattle.std.specs.Ordering.{nat_cmp}
use Rattle.edge_main.specs.Summary.{one_more}
use Rattle.edge_main.specs.declared.summary.NameCount.{NameCount}
use Rattle.edge_main.proofs.SummaryLemmas.{at_name, before_name, behind_all}
use Rattle.edge_main.proofs.summary.count_name.Goals as goal

pub returns-in-Equal-clause-ok : goal.returns-in-Equal-clause-ok
returns-in-Equal-clause-ok c =
    let inv = c.loop-place.invariant in
    let counts = c.loop-place.counts.items in
    let order = sym c.cmp.ensures ∙ c.in-Equal.is in
    let equal = subst₂ (λ a b. slice_cmp nat_cmp a b ≡ _) c.bytes.ensures (c.bytes-in-loop-place.ensures ∙ inv.name) order in
    at_name c.args.name counts c.loop-place.place c.index_mut.result.now c.index.result.now (omega (arith, c.loop-place-test.true)) c.index_mut.ensures.value c.index.ensures equal
    ∙ ap (λ name. take c.loop-place.place counts ++ one_more name (drop c.loop-place.place counts)) (sym inv.name)
    ∙ sym inv.passed ∙ ap₂ (λ name (these : List NameCount). one_more name these) inv.name (ap (λ all. all.items) inv.same)

pub returns-in-Greater-clause-ok : goal.returns-in-Greater-clause-ok
returns-in-Greater-clause-ok c =
    let inv = c.loop-place.invariant in
    let counts = c.loop-place.counts.items in
    let order = sym c.cmp.ensures ∙ c.in-Greater.is in
    let greater = subst₂ (λ a b. slice_cmp nat_cmp a b ≡ _) c.bytes.ensures c.bytes-in-loop-place.ensures order in
    c.in_ok-insert-in-Greater.ensures.items
    ∙ before_name c.loop-place.name counts c.loop-place.place c.index.result.now (omega (arith, c.loop-place-test.true)) c.index.ensures greater
    ∙ sym inv.passed ∙ ap₂ (λ name (these : List NameCount). one_more name these) inv.name (ap (λ all. all.items) inv.same)

pub returns-clause-ok : goal.returns-clause-ok
returns-clause-ok c =
    let inv = c.loop-place.invariant in
    let counts = c.loop-place.counts.items in
    c.in_ok-push.ensures.items
    ∙ behind_all c.loop-place.name counts c.loop-place.place (grind (arith, c.loop-place-test.false, c.len-place-end.ensures, inv.same))
    ∙ sym inv.passed ∙ ap₂ (λ name (these : List NameCount). one_more name these) inv.name (ap (λ all. all.items) inv.same)
