use Rattle.std.proofs.Common.{rules}
use Rattle.rate_shared.proofs.Kept.{gives_turn}
use Rattle.rate_shared.proofs.turns.give_turn.Goals as goal

pub swap-requires : goal.swap-requires
swap-requires c =
    let out = c.requires.out in
    (search rules, search rules, gives_turn _ _ _ _ c.args.lane out.0 (search rules) (search rules) out.1 out.2)
