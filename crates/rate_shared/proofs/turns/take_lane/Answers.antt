use Rattle.std.proofs.Common.{◌∷◌, sym, ap, ◌∙◌, Some}
use Rattle.atomic_table.specs.Table.{rest}
use Rattle.rate_shared.proofs.turns.take_lane.Goals as goal

pub exchange-requires : goal.exchange-requires
exchange-requires c =
    let out = c.requires.out in
    (c.requires.table, (Some out.0, out.1 ∙ ap (λ cs. (c.args.lane, Some out.0) ∷ rest cs) (sym out.1)))
