use Rattle.std.proofs.Common.{◌≡◌, ◌||◌, get_or, take, ap, sym, ◌∙◌}
use Rattle.std.specs.List.{list_any}
use Rattle.std.specs.Str.{bytes_eq}
use Rattle.std.proofs.lemmas.List.Folds.{list_any_more}
use Rattle.list_store.proofs.SetLemmas.{has-put}
use Rattle.list_store.proofs.members.texts_of.Goals as goal

pub loop-item-preserved : goal.loop-item-preserved
loop-item-preserved c text =
    let items = c.args.items.now in
    let i = c.loop-item.item-index in
    let key = c.in_ok-from_slice.field-0 in
    let one : key.items ≡ get_or items i c.item-item.result = c.in_ok-from_slice.ensures.items ∙ c.bytes.ensures ∙ c.item-item.is in
    has-put (λ k. k.items) c.loop-item.set.keys c.insert.new.self.keys key c.in_ok-insert.field-0 c.in_ok-insert.ensures.added c.in_ok-insert.ensures.keys text
    ∙ ap (λ b. b || bytes_eq text key.items) (c.loop-item.invariant text)
    ∙ ap (λ t. list_any (λ item. bytes_eq text item) (take i items) || bytes_eq text t) one
    ∙ sym (list_any_more (λ item. bytes_eq text item) items i c.item-item.result c.loop-item-test.true)
