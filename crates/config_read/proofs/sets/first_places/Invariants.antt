use Rattle.std.proofs.Common.{◌≤◌, length}
use Rattle.config_read.proofs.IdLemmas.{AreFirstFrom}
use Rattle.config_read.proofs.sets.first_places.Given as goal

-- the ids from here on are kept
abbrev pub invariant-loop-at : goal.invariant-loop-at
invariant-loop-at l = record {
  within : l.at ≤ length l.values;
  places : AreFirstFrom l.ids l.values l.at;
}

abbrev pub decreases-loop-at : goal.decreases-loop-at
decreases-loop-at l = l.at
