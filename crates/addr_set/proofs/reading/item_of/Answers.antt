use Rattle.std.proofs.lemmas.List.{take_rest}
use Rattle.addr_set.proofs.ReadingLemmas.{Reads-range, Reads-block, IsNoItemText-alone}
use Rattle.addr_set.proofs.reading.item_of.Goals as goal

pub returns-in-Some : goal.returns-in-Some
returns-in-Some c =
    let sides = c.range_of.ensures in
    Reads-range c.args.text.now c.in-Some.at c.in-Some.ensures c.range_of.result (rw take_rest at sides)

pub returns-in-Some-memchr : goal.returns-in-Some-memchr
returns-in-Some-memchr c =
    let sides = c.block_of.ensures in
    Reads-block c.args.text.now c.in_default.ensures c.in-Some-memchr.at c.in-Some-memchr.ensures c.block_of.result (rw take_rest at sides)

pub returns-in-None : goal.returns-in-None
returns-in-None c = IsNoItemText-alone c.args.text.now c.in_default.ensures c.in_default-memchr.ensures c.in-None.ensures
