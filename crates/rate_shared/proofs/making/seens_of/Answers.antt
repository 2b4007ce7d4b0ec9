use Rattle.std.proofs.Common.{rules, ◌<◌, sym, ap, subst}
use Rattle.rate_shared.specs.Steps.{Sat}
use Rattle.rate_shared.proofs.Kept.{splits_number}
use Rattle.rate_shared.proofs.making.seens_of.Goals as goal

pub split_seat-seat-requires : goal.split_seat-seat-requires
split_seat-seat-requires c =
    let first = c.loop-caller.invariant.first in
    let below : c.loop-caller.caller < c.args.board.now.key.callers = search rules in
    (search rules, search rules, splits_number _ _ _ (subst (λ (m : Sat). m.0.known.from < m.0.known.to) (sym first) below) (ap (λ (m : Sat). m.0.kept) first))
