use Rattle.std.proofs.Common.{rules, ◌≡◌, ℕ, List, length, sym, ap, ◌∙◌, subst}
use Rattle.rate_shared.specs.declared.seen.Seen.{Seen}
use Rattle.rate_shared.specs.Callers.{shape_of}
use Rattle.rate_shared.specs.Close.{AreAll, HasTaken}
use Rattle.rate_shared.proofs.CloseLemmas.{closes}
use Rattle.rate_shared.proofs.counters.Counters.close.Goals as goal

pub returns-clause-closes : goal.returns-clause-closes
returns-clause-closes c =
    let self = c.args.self in
    let seens = c.args.seens.items in
    let wrote = c.write_own.ensures in
    let out = c.from_vec-own.ensures in
    let all : AreAll (shape_of self).callers seens = search rules in
    let count = ap length out ∙ wrote.count ∙ self.own_count in
    let own : HasTaken c.from_vec-own.result seens seens = subst (λ (z : List ℕ × List Seen). HasTaken z.0 z.1 z.1) (λ i. (sym out i, c.as_slice-2.ensures.value i)) wrote.own in
    closes (shape_of self) seens _ c.gather-history.ensures self.shape.callers.0 all count own
