use Rattle.std.proofs.Common.{leb, leb-true, leb-false, rules}
use Rattle.std.proofs.lemmas.List.Sorted.{IsPartitionPoint-from_clause, IsPartitionedBy-leb}
use Rattle.addr_set.proofs.intervals.begun.Goals as goal

pub returns : goal.returns
returns c =
    let number = c.args.number in
    let parted = IsPartitionedBy-leb (λ x. x.first) _ number c.requires in
    let point = IsPartitionPoint-from_clause (λ x. leb x.first number) _ _ c.partition_point.ensures.partitioned parted (λ a r q k. search rules) in
    record {
      within = c.partition_point.ensures.bound;
      before = λ k d low high. leb-true _ _ (point.0 k d low high);
      after = λ k d low high. leb-false _ _ (point.1 k d low high);
    }
