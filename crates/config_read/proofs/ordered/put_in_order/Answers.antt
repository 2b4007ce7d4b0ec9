use Rattle.std.proofs.Common.{◌≡◌, rules}
use Rattle.config_read.specs.Rewrites.{lower}
use Rattle.config_read.proofs.OrderLemmas.{put_step}
use Rattle.config_read.proofs.ordered.put_in_order.Goals as goal

pub loop-entry-preserved : goal.loop-entry-preserved
loop-entry-preserved c =
    let low : c.in_ok-to_ascii_lowercase.field-0.items ≡ lower c.entry-item.result.0.now = search rules in
    let written : c.in_ok-from_slice.field-0.items ≡ c.entry-item.result.0.now = search rules in
    let made = put_step c.args.entries.now c.loop-entry.entry-index c.loop-entry.ordered.entries _ (c.in_ok-to_ascii_lowercase.field-0, c.in_ok-from_slice.field-0) c.entry-item.result c.loop-entry.invariant.keyed c.loop-entry-test.true c.entry-item.is low written c.in_ok-insert.ensures.entries c.loop-entry.invariant.order in
    record { keyed = made.0; order = made.1 }
