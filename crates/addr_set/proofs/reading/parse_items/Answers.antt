use Rattle.std.proofs.Common.{◌≡◌, [], ◌∷◌, ◌++◌, get_or, sym, subst, ◌∙◌, length-append, arith}
use Rattle.std.proofs.lemmas.List.Elements.{All-push}
use Rattle.addr_set.specs.Sets.{IsAddrItem}
use Rattle.addr_set.specs.ItemTexts.{IsGoodText, IsNoItemText, IsLongPrefix, IsBackward}
use Rattle.addr_set.proofs.ListLemmas.{AllZip-take_more, IsFirstFlaw-next}
use Rattle.addr_set.proofs.reading.parse_items.Goals as goal

pub returns-in-Err-Address-clause-bad_addr : goal.returns-in-Err-Address-clause-bad_addr
returns-in-Err-Address-clause-bad_addr c at e =
    let place : c.len-at.result ≡ at = cc in
    IsFirstFlaw-next IsNoItemText c.as_slice-text-items.result.now c.args.texts.now c.loop-text.items c.loop-text.text-index at c.text-item.result c.bytes.result.now
    c.as_slice-text-items.ensures c.loop-text-test.true c.loop-text.invariant.texts c.text-item.is c.bytes.ensures
    (sym place ∙ c.len-at.ensures ∙ c.loop-text.invariant.count) (rw c.in-Err-Address.field-0-is at c.in-Err-Address.ensures)

pub returns-in-Err-Prefix-clause-bad_prefix : goal.returns-in-Err-Prefix-clause-bad_prefix
returns-in-Err-Prefix-clause-bad_prefix c at e =
    let place : c.len-at.result ≡ at = cc in
    IsFirstFlaw-next IsLongPrefix c.as_slice-text-items.result.now c.args.texts.now c.loop-text.items c.loop-text.text-index at c.text-item.result c.bytes.result.now
    c.as_slice-text-items.ensures c.loop-text-test.true c.loop-text.invariant.texts c.text-item.is c.bytes.ensures
    (sym place ∙ c.len-at.ensures ∙ c.loop-text.invariant.count) (rw c.in-Err-Prefix.field-0-is at c.in-Err-Prefix.ensures)

pub returns-in-Err-Backward-clause-backward_range : goal.returns-in-Err-Backward-clause-backward_range
returns-in-Err-Backward-clause-backward_range c at e =
    let place : c.len-at.result ≡ at = cc in
    IsFirstFlaw-next IsBackward c.as_slice-text-items.result.now c.args.texts.now c.loop-text.items c.loop-text.text-index at c.text-item.result c.bytes.result.now
    c.as_slice-text-items.ensures c.loop-text-test.true c.loop-text.invariant.texts c.text-item.is c.bytes.ensures
    (sym place ∙ c.len-at.ensures ∙ c.loop-text.invariant.count) (rw c.in-Err-Backward.field-0-is at c.in-Err-Backward.ensures)

pub loop-text-preserved : goal.loop-text-preserved
loop-text-preserved c =
    let texts = c.as_slice-text-items.result.now in
    let i = c.loop-text.text-index in
    let good : IsGoodText (get_or texts i c.text-item.result) c.in-Ok.item =
    subst (λ text. IsGoodText text c.in-Ok.item) (c.bytes.ensures ∙ c.text-item.is) c.in-Ok.ensures in
    let pushed : c.push.new.self ≡ c.loop-text.items ++ c.in-Ok.item ∷ [] = c.in_ok-push-in-Ok.ensures.ok in
    record {
      texts = rw pushed (AllZip-take_more IsGoodText texts c.loop-text.items i c.text-item.result c.in-Ok.item c.loop-text-test.true c.loop-text.invariant.texts good);
      items = rw pushed (All-push IsAddrItem c.loop-text.items c.in-Ok.item c.loop-text.invariant.items good.is_good);
      count = rw (pushed, length-append) (omega (arith, c.loop-text.invariant.count));
    }
