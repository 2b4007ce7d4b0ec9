use Rattle.std.proofs.Common.{Err, refl, ap, sym, ◌∙◌}
use Rattle.addr_set.specs.ItemTexts.{IsRefused, IsLongPrefix, IsBackward}
use Rattle.addr_set.proofs.ReadingLemmas.{IsRefused-long_prefix, IsRefused-backward}
use Rattle.list_store.proofs.SetLemmas.{has_addr-texts, AreRead-zip, IsFirstFlaw-weaker}
use Rattle.list_store.proofs.members.addrs_of.Goals as goal

pub returns-in_ok-build-in-Ok : goal.returns-in_ok-build-in-Ok
returns-in_ok-build-in-Ok c =
    let texts = c.args.items.now in
    let read = c.in-Ok.read in (
      AreRead-zip texts read c.in-Ok.ensures.ok,
      λ address.
          let same = ap (λ test. test address) c.in_ok-build-in-Ok.ensures in
          let both = has_addr-texts texts read address c.in-Ok.ensures.ok in
          (λ yes'. both.0 (sym same ∙ yes'), λ has. same ∙ both.1 has),
    )

pub returns-in-Err-BadPrefix : goal.returns-in-Err-BadPrefix
returns-in-Err-BadPrefix c =
    let first = c.in-Err-BadPrefix.ensures.bad_prefix c.in-Err-BadPrefix.at (ap Err c.in-Err-BadPrefix.field-0-is) in
    rw c.in-Err-BadPrefix.at-is (refl, IsFirstFlaw-weaker IsLongPrefix IsRefused IsRefused-long_prefix c.args.items.now c.in-Err-BadPrefix.at first)

pub returns-in-Err-BackwardRange : goal.returns-in-Err-BackwardRange
returns-in-Err-BackwardRange c =
    let first = c.in-Err-BackwardRange.ensures.backward_range c.in-Err-BackwardRange.at (ap Err c.in-Err-BackwardRange.field-0-is) in
    rw c.in-Err-BackwardRange.at-is (refl, IsFirstFlaw-weaker IsBackward IsRefused IsRefused-backward c.args.items.now c.in-Err-BackwardRange.at first)
