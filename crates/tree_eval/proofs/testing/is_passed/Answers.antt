use Rattle.tree_eval.proofs.TestLemmas.{listed_is_passed}
use Rattle.tree_eval.proofs.testing.is_passed.Goals as goal

pub returns-in-Listed : goal.returns-in-Listed
returns-in-Listed c =
    rw c.in-Listed.is (listed_is_passed c.args.lists.now c.in-Listed.list c.in-Listed.field-1 c.args.value.now c.has_value.result
    (rw c.in-Listed.is at c.requires) c.has_value.ensures)
