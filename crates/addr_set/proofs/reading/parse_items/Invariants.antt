use Rattle.std.proofs.Common.{◌≡◌, length, take}
use Rattle.std.specs.List.{All, AllZip}
use Rattle.addr_set.specs.Sets.{IsAddrItem}
use Rattle.addr_set.specs.ItemTexts.{IsGoodText}
use Rattle.addr_set.proofs.reading.parse_items.Given as goal

-- the items of the texts before the next one
abbrev pub invariant-loop-text : goal.invariant-loop-text
invariant-loop-text l = record {
  texts : AllZip IsGoodText (take l.text-index l.text-items) l.items;
  items : All IsAddrItem l.items;
  count : length l.items ≡ l.text-index;
}
