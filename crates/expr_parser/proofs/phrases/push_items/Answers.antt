use Rattle.std.proofs.Common.{◌≡◌, ℕ, ◌+◌, ◌<◌, List, [], ◌∷◌, ◌++◌, length, take, get_or, ◌∙◌, sym, ap, append_assoc}
use Rattle.edge_base.specs.declared.expression.Item.{Item}
use Rattle.expr_parser.specs.Spelling.{item_spelling, items_spelling}
use Rattle.expr_parser.proofs.SpellingLaws.{items_spelling-take_more}
use Rattle.expr_parser.proofs.phrases.push_items.Goals as goal

one_more : (begun out mid new : List ℕ) (items : List Item) (i : ℕ) (d : Item) → i < length items → d ≡ get_or items i d → out ≡ begun ++ items_spelling (take i items)
    → mid ≡ out ++ item_spelling d → new ≡ mid ++ 32 ∷ [] → new ≡ begun ++ items_spelling (take (i + 1) items)
one_more begun out mid new items i d below same p q r =
    let regroup : ((begun ++ items_spelling (take i items)) ++ item_spelling d) ++ 32 ∷ [] ≡ begun ++ (items_spelling (take i items) ++ (item_spelling d ++ 32 ∷ []))
    = simp append_assoc in
    r ∙ ap (λ v. v ++ 32 ∷ []) (q ∙ ap (λ v. v ++ item_spelling d) p)
    ∙ regroup
    ∙ ap (λ e. begun ++ (items_spelling (take i items) ++ (item_spelling e ++ 32 ∷ []))) same
    ∙ ap (λ v. begun ++ v) (sym (items_spelling-take_more items i d below))

pub loop-item-preserved : goal.loop-item-preserved
loop-item-preserved c =
    one_more _ _ _ _ c.args.items.now c.loop-item.item-index c.item-item.result c.loop-item-test.true c.item-item.is
    c.loop-item.invariant c.in_ok-push_item.ensures c.in_ok-push.ensures.ok
