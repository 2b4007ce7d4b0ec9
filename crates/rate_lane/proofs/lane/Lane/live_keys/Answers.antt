use Rattle.std.proofs.Common.{ap, ◌∙◌}
use Rattle.rate_lane.specs.Index.{live_among}
use Rattle.rate_lane.proofs.LiveKeysLemmas.{live_counted}
use Rattle.rate_lane.proofs.lane.Lane.live_keys.Goals as goal

-- those that are kept and live are all that are
pub returns : goal.returns
returns c history stands =
    c.live_keys.ensures.count
    ∙ ap (λ at. live_among at c.args.self.now.index.entries) c.get.ensures.number
    ∙ live_counted c.args.self.now.moment c.args.at c.later-at.result c.args.self.now.index.entries history c.live_keys.ensures.unique stands.moment stands.keeps c.later-at.ensures
