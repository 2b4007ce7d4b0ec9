use Rattle.std.proofs.Common.{rules, ◌≡◌, ◌+◌, ◌-◌, MatchBool, nat_eq, subst, arith}
use Rattle.rate_shared.specs.Steps.{TakesLane}
use Rattle.rate_shared.proofs.Kept.{takes_turn}
use Rattle.rate_shared.proofs.turns.try_turn.Goals as goal

pub compare_exchange-requires : goal.compare_exchange-requires
compare_exchange-requires c = (search rules, search rules, takes_turn _ _ _ _ c.args.lane (search rules) (search rules))

pub returns-clause-took : goal.returns-clause-took
returns-clause-took c =
    let before = c.args.place.now.me in
    let after = c.compare_exchange.new.seat.me in
    let back : c.args.lane + 1 - 1 ≡ c.args.lane = omega arith in
    subst (λ l. MatchBool (nat_eq c.compare_exchange.result 0) (TakesLane l before after) (after ≡ before)) back c.compare_exchange.ensures.2
