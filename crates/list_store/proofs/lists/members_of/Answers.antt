use Rattle.std.proofs.Common.{◌≡◌, get_or, take, subst, length-append, arith}
use Rattle.addr_set.proofs.ListLemmas.{AllZip-take_more}
use Rattle.list_store.specs.Parts.{IsFine}
use Rattle.list_store.specs.Members.{AreMembersOf}
use Rattle.list_store.proofs.ListLemmas.{AreFineBefore-more}
use Rattle.list_store.proofs.lists.members_of.Goals as goal

pub loop-part-preserved : goal.loop-part-preserved
loop-part-preserved c =
    let parts = c.args.parts.now in
    let i = c.loop-part.part-index in
    let part = c.part-item.result in
    let place : c.len-list.result ≡ i = omega (arith, c.len-list.ensures, c.loop-part.members.ok.0, c.loop-part.invariant.count) in
    let made : AreMembersOf (get_or parts i part) c.in_ok-of.field-0 = subst (λ p. AreMembersOf p c.in_ok-of.field-0) c.part-item.is c.in_ok-of.ensures.1 in
    let there : IsFine (take i parts) part = subst (λ k. IsFine (take k parts) part) place c.in_ok-of.ensures.0 in
    let fine : IsFine (take i parts) (get_or parts i part) = subst (λ p. IsFine (take i parts) p) c.part-item.is there in
    record {
      made = rw c.in_ok-push.ensures.items (AllZip-take_more AreMembersOf parts c.loop-part.members.items i part c.in_ok-of.field-0 c.loop-part-test.true c.loop-part.invariant.made made);
      fine = AreFineBefore-more parts i part c.loop-part-test.true c.loop-part.invariant.fine fine;
      count = rw (c.in_ok-push.ensures.items, length-append) (omega (arith, c.loop-part.invariant.count));
    }
