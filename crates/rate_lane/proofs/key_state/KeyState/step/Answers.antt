use Rattle.std.proofs.Common.{◌≡◌, ◌+◌, ◌<◌, ◌≤◌, ◌≢◌, max, length, refl, sym, ap, ◌∙◌, arith}
use Rattle.circular_buffer.specs.Buffer.{buffer, keep_last}
use Rattle.std.proofs.Common.{◌++◌, [], ◌∷◌}
use Rattle.rate_lane.proofs.KeyStateLemmas.{steps_held, steps_looking, steps_over_until, steps_pass}
use Rattle.rate_lane.proofs.key_state.KeyState.step.Goals as goal

pub returns-then-now-self-clause-steps : goal.returns-then-now-self-clause-steps
returns-then-now-self-clause-steps c =
    let runs : c.args.at < c.args.self.now.held_until = grind (arith, c.if-now-self.true, c.get-now.ensures.number) in
    steps_held c.args.self.now c.args.key.now c.args.adds c.args.at runs

pub returns-then-not-adds-clause-steps : goal.returns-then-not-adds-clause-steps
returns-then-not-adds-clause-steps c =
    let free : c.args.self.now.held_until ≤ c.args.at = grind (arith, c.if-now-self.false, c.get-now.ensures.number) in
    steps_looking c.args.self.now c.args.key.now c.args.adds c.args.at free c.if-not-adds.true

pub returns-then-len-key-clause-steps : goal.returns-then-len-key-clause-steps
returns-then-len-key-clause-steps c =
    let free : c.args.self.now.held_until ≤ c.args.at = grind (arith, c.if-now-self.false, c.get-now.ensures.number) in
    let ends : c.get-now.result + c.key.inside.timeout ≡ c.args.at + c.args.key.now.timeout = λ i. c.get-now.ensures.number i + (c.key.view_is i).timeout in
    let full = sym c.len.ensures.len ∙ c.if-len-key.true ∙ ap (λ k. k.threshold) c.key.view_is in
    steps_over_until c.args.self.now (record { held_until = c.get-now.result + c.key.inside.timeout; live_until = c.max-self.result; moments = c.forget.new.moments })
    c.args.key.now c.args.adds c.args.at (c.get-now.result + c.key.inside.timeout) ends free c.if-not-adds.false
    c.forget.ensures.forgets c.forget.ensures.places full refl c.max-self.ensures

pub returns-clause-steps : goal.returns-clause-steps
returns-clause-steps c =
    let free : c.args.self.now.held_until ≤ c.args.at = grind (arith, c.if-now-self.false, c.get-now.ensures.number) in
    let below : length c.forget.new.moments.items ≢ c.args.key.now.threshold = λ e. c.if-len-key.false (c.len.ensures.len ∙ e ∙ sym (ap (λ k. k.threshold) c.key.view_is)) in
    let pushed : c.push_back.new.self ≡ buffer (keep_last c.args.self.now.moments.capacity (c.forget.new.moments.items ++ c.args.at ∷ [])) c.args.self.now.moments.capacity =
    c.push_back.ensures.items ∙ ap (λ n. buffer (keep_last n (c.forget.new.moments.items ++ c.args.at ∷ [])) n) c.forget.ensures.places in
    let longer = c.max-self-2.ensures ∙ ap (max c.args.self.now.live_until) (λ i. c.get-now.ensures.number i + (c.key.view_is i).period) in
    steps_pass c.args.self.now (record { held_until = c.args.self.now.held_until; live_until = c.max-self-2.result; moments = c.push_back.new.self })
    c.args.key.now c.args.adds c.args.at c.forget.new.moments.items free c.if-not-adds.false
    c.forget.ensures.forgets below pushed refl longer
