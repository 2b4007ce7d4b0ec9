use Rattle.std.proofs.Common.{arith}
use Rattle.rate_plain.proofs.LiveLemmas.{live_count-within_steps}
use Rattle.rate_plain.proofs.window.is_full.Goals as goal

-- where too few steps make keys live, too few keys are
pub returns-else-cap-live_steps : goal.returns-else-cap-live_steps
returns-else-cap-live_steps c =
    let within = live_count-within_steps c.args.lanes c.args.lane c.args.at c.args.entries.now in
    grind (arith, within)
