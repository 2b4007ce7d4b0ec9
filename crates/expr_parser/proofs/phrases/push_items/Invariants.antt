use Rattle.std.proofs.Common.{◌≡◌, ◌++◌, take}
use Rattle.expr_parser.specs.Spelling.{items_spelling}
use Rattle.expr_parser.proofs.phrases.push_items.Given as goal

abbrev pub invariant-loop-item : goal.invariant-loop-item
invariant-loop-item l = l.out ≡ l.fn.out ++ items_spelling (take l.item-index l.items)
