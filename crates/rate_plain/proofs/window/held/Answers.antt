use Rattle.std.proofs.Common.{arith}
use Rattle.rate_plain.proofs.WindowLemmas.{held_more}
use Rattle.rate_plain.proofs.window.held.Goals as goal

pub loop-entry-preserved : goal.loop-entry-preserved
loop-entry-preserved c =
    let step = held_more c.args.key.now c.args.at c.args.entries.now c.loop-entry.entry-index c.entry-item.result c.loop-entry-test.true c.entry-item.is in
    grind (arith, step)
