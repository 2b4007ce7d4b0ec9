-- Working vocabulary, which no public clause cites.
-- The rules at the places of a walk.
use Rattle.std.specs.Prelude.{◌+◌}
use Rattle.judge_core.specs.declared.carried.RulePlace.{RulePlace}
use Rattle.judge_core.specs.declared.outcome.Inner.{Inner}
use Rattle.judge_core.specs.declared.outcome.Walk.{Walk as WalkPlace}

abbrev pub place_of : WalkPlace → RulePlace
place_of walk = record { set = walk.set; rule = walk.next }

abbrev pub inner_place_of : Inner → RulePlace
inner_place_of inner = record { set = inner.set; rule = inner.next }

-- the place of the rule behind it
abbrev pub next_inner : Inner → Inner
next_inner inner = record { set = inner.set; next = inner.next + 1 }

abbrev pub next_walk : WalkPlace → WalkPlace
next_walk walk = record { set = walk.set; next = walk.next + 1 }
