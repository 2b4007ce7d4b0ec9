use Rattle.std.proofs.Common.{◌≡◌, ◌∙◌, ◌<◌, length, drop, ap, refl, rules}
use Rattle.std.specs.Option.{option_copied}
use Rattle.tree_eval.specs.Settings.{setting_of}
use Rattle.filter_compile.specs.Steps.{are_steps_placed}
use Rattle.filter_compile.specs.Slots.{slots_of}
use Rattle.filter_compile.proofs.PlacedLemmas.{placed_drop}
use Rattle.filter_compile.proofs.RunLemmas.{run_more}
use Rattle.filter_compile.proofs.program.Filter.run.Goals as goal

pub running-preserved : goal.running-preserved
running-preserved c =
    let steps = c.running.steps.now in
    let within : 0 < length c.running.steps.now = search rules in
    let passes : c.from-steps.result.now ≡ drop c.in_ok-over.over (drop 1 c.running.steps.now) = c.from-steps.ensures ∙ ap (drop c.in_ok-over.over) c.from.ensures in
    record {
      placed =
          ap (are_steps_placed c.args.self.now.lists) passes
          ∙ placed_drop c.args.self.now.lists c.in_ok-over.over (drop 1 steps) (placed_drop c.args.self.now.lists 1 steps c.running.invariant.placed);
      left = λ is_listed tells.
          run_more (setting_of is_listed c.args.request.now (option_copied c.args.reply)) steps (drop 1 steps) c.from-steps.result.now c.index-steps-0.result c.in_ok-over.over
          (slots_of c.running.slots) (slots_of c.done.new.slots) _ within c.index-steps-0.is refl passes c.in_ok-over.ensures.over (c.in_ok-over.ensures.slots is_listed tells)
          (c.running.invariant.left is_listed tells);
    }
