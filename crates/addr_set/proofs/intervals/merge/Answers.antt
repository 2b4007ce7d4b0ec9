use Rattle.std.proofs.Common.{◌≤◌, ◌||◌, get_or, ap, sym, ◌∙◌, arith}
use Rattle.std.proofs.lemmas.List.{get_or_default}
use Rattle.std.proofs.lemmas.List.Elements.{All-weaker}
use Rattle.std.proofs.lemmas.List.Folds.{list_any_more}
use Rattle.addr_set.specs.declared.intervals.Interval.{Interval}
use Rattle.addr_set.specs.Intervals.{is_in}
use Rattle.addr_set.proofs.intervals.merge.Goals as goal

pub add-requires-clause-begins : goal.add-requires-clause-begins
add-requires-clause-begins c =
    c.loop-next.invariant.begins c.loop-next.next-index (record { first = 0; last = 0 }) (omega arith) c.loop-next-test.true

pub loop-next-preserved : goal.loop-next-preserved
loop-next-preserved c =
    let xs = c.args.sorted.now in
    let i = c.loop-next.next-index in
    let none : Interval = record { first = 0; last = 0 } in record {
      apart = c.in_ok-add.ensures.apart;
      begins = λ k e low high.
          let rises : (get_or xs i none).first ≤ (get_or xs k e).first =
          rw (get_or_default xs i none e c.loop-next-test.true) (c.requires i k e (omega arith) high) in
          All-weaker (λ x. x.first ≤ (get_or xs i none).first) (λ x. x.first ≤ (get_or xs k e).first) (λ x begins. omega arith) _ c.in_ok-add.ensures.begins;
      same = λ number.
          c.in_ok-add.ensures.same number
          ∙ ap (λ b. b || is_in (get_or xs i none) number) (c.loop-next.invariant.same number)
          ∙ sym (list_any_more (λ x. is_in x number) xs i none c.loop-next-test.true);
    }
