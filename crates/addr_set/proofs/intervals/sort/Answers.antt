use Rattle.std.proofs.Common.{sym, rules}
use Rattle.std.proofs.lemmas.List.Sorted.{IsNonDecreasingBy-from_sort_by_key, list_any-IsPermutation}
use Rattle.addr_set.specs.Intervals.{is_in}
use Rattle.addr_set.proofs.intervals.sort.Goals as goal

pub returns-clause-sorted : goal.returns-clause-sorted
returns-clause-sorted c = IsNonDecreasingBy-from_sort_by_key (λ x. x.first) _ c.sort_unstable_by_key.ensures.sorted (λ a r q k. search rules)

pub returns-clause-same : goal.returns-clause-same
returns-clause-same c =
    λ i number. sym (list_any-IsPermutation (λ x. is_in x number) c.args.intervals.now _ c.sort_unstable_by_key.ensures.permutation) i
