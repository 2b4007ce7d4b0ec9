use Rattle.std.proofs.Common.{◌≡◌, ◌<◌, ◌∙◌, ap, arith}
use Rattle.std.proofs.lemmas.List.{length-set, length_push}
use Rattle.std.proofs.Math.Nat.{mod-lt}
use Rattle.rate_plain.specs.Hash.{fnv1a64_of}
use Rattle.rate_plain.specs.Keys.{key_bytes, lane_of_key}
use Rattle.rate_plain.specs.History.{entry_of}
use Rattle.rate_lane.proofs.LanesLemmas.{lanes_after}
use Rattle.rate_lane.proofs.lanes.LanesTally.step.Goals as goal

pub returns-clause-answers : goal.returns-clause-answers
returns-clause-answers c count room history stands =
    let all = c.args.self.now.lanes.items in
    let key = c.args.ask.now.key in
    let some : 0 < count = omega (arith, stands.lanes, c.args.self.now.some) in
    let own : c.lane_of-place.result ≡ lane_of_key count key = c.lane_of-place.ensures ∙ ap (λ n. lane_of_key n key) (c.len.ensures ∙ c.args.self.now.lanes.ok.0 ∙ stands.lanes) in
    let below : c.lane_of-place.result < count = omega (arith, own, mod-lt (fnv1a64_of (key_bytes key)) {m = count} some) in
    let after = lanes_after all count room c.lane_of-place.result history stands.lanes below stands.each c.index_mut.result.now c.step.new.self c.args.ask.now c.in_ok-answer.answer own c.index_mut.ensures.value c.in_ok-answer.ensures.steps c.step.ensures.cap in (
      after.0,
      record {
        lanes = length-set all c.lane_of-place.result c.step.new.self ∙ stands.lanes;
        each = after.1 c.args._caller;
        steps = omega (arith, stands.steps, length_push history (entry_of count room history c.args._caller c.args.ask.now));
      },
    )
