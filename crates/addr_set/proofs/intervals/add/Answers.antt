use Rattle.std.proofs.Common.{◌≡◌, ◌-◌, ◌<◌, ◌≤◌, ◌++◌, [], ◌∷◌, List, sym, ◌∙◌, ap, arith}
use Rattle.std.specs.List.{All}
use Rattle.addr_set.specs.declared.intervals.Interval.{Interval}
use Rattle.addr_set.specs.Intervals.{AreApart}
use Rattle.addr_set.proofs.IntervalLemmas.{both, Adds, Adds-both, Adds-next}
use Rattle.addr_set.proofs.intervals.add.Goals as goal

touching : (old front : List Interval) (last next : Interval) (now : List Interval) → old ≡ front ++ last ∷ [] → AreApart old → All (λ x. x.first ≤ next.first) old → next.first - 1 ≤ last.last → now ≡ front ++ both last next ∷ [] → Adds old next now
touching old front last next now is apart begins touch pushed =
    rw (is, pushed) (Adds-both front last next (rw is at apart) (rw is at begins) touch)

gapped : (old front : List Interval) (last next : Interval) (now : List Interval) → old ≡ front ++ last ∷ [] → AreApart old → All (λ x. x.first ≤ next.first) old → last.last < next.first - 1 → now ≡ (front ++ last ∷ []) ++ next ∷ [] → Adds old next now
gapped old front last next now is apart begins gap pushed =
    rw (is, pushed) (Adds-next front last next (rw is at apart) (rw is at begins) gap)

pub returns-in_ok-push-2 : goal.returns-in_ok-push-2
returns-in_ok-push-2 c =
    let made : both c.in-Some.last c.args.next ≡ record { first = c.in-Some.last.first; last = c.max.result } = cc (c.max.ensures) in
    let adds = touching c.args.merged.now.items c.pop.new.self.items c.in-Some.last c.args.next _ c.in-Some.ensures.items c.requires.apart c.requires.begins (omega arith)
    (c.in_ok-push-2.ensures.items ∙ ap (λ x. c.pop.new.self.items ++ x ∷ []) (sym made)) in
    record { apart = adds.apart; begins = adds.begins; same = adds.same }

pub returns-in_ok-push-4 : goal.returns-in_ok-push-4
returns-in_ok-push-4 c =
    let adds = gapped c.args.merged.now.items c.pop.new.self.items c.in-Some.last c.args.next _ c.in-Some.ensures.items c.requires.apart c.requires.begins (omega arith)
    (c.in_ok-push-4.ensures.items ∙ ap (λ xs. xs ++ c.args.next ∷ []) c.in_ok-push-3.ensures.items) in
    record { apart = adds.apart; begins = adds.begins; same = adds.same }
