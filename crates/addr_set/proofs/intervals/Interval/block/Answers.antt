use Rattle.std.proofs.Common.{◌<◌, arith}
use Rattle.std.proofs.lemmas.Nat.{one_shl}
use Rattle.addr_set.proofs.IntervalLemmas.{block_fits}
use Rattle.addr_set.proofs.intervals.Interval.block.Goals as goal

pub overflow_add-result : goal.overflow_add-result
overflow_add-result c =
    let small : c.args.last_bits < 128 = omega arith in
    rw (one_shl c.args.last_bits 128 small) (record { fits = block_fits c.args.number c.args.last_bits small (omega arith) })
