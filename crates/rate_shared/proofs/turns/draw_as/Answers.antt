use Rattle.std.proofs.Common.{rules}
use Rattle.rate_shared.proofs.Kept.{draws_entry}
use Rattle.rate_shared.proofs.turns.draw_as.Goals as goal

pub fetch_add-requires : goal.fetch_add-requires
fetch_add-requires g c =
    let may = c.requires.may in
    (search rules, search rules, draws_entry _ _ _ _ c.args.lane c.args.caller c.args.ask.now _ may.some_lane may.turn may.none_kept may.of_lane may.low may.high may.room c.requires.entry)
