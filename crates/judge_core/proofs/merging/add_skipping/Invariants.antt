-- what is left to add completes what was added
use Rattle.std.proofs.Common.{◌≡◌, drop}
use Rattle.judge_core.specs.Merging.{onto_skipping}
use Rattle.judge_core.proofs.merging.add_skipping.Given as goal

abbrev pub invariant-loop-place : goal.invariant-loop-place
invariant-loop-place l =
    onto_skipping l.config (drop l.place-index l.places) l.all ≡ onto_skipping l.config l.places l.fn.all
