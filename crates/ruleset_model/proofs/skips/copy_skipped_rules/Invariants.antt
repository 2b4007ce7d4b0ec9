use Rattle.std.proofs.Common.{◌≡◌, take}
use Rattle.ruleset_model.proofs.skips.copy_skipped_rules.Given as goal

abbrev pub invariant-loop-set_id : goal.invariant-loop-set_id
invariant-loop-set_id l = l.copy ≡ take l.set_id-index l.rules
