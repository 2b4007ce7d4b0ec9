-- The slots of a run, as the meaning of steps lists them.
use Rattle.std.specs.Prelude.{List, map, reverse}
use Rattle.type_check.specs.Meaning.{Sense}
use Rattle.tree_eval.specs.declared.sense.Sense.{Sense as Kept}
use Rattle.tree_eval.specs.Seen.{seen}

-- what stands in the slots, from the last to the first
abbrev pub slots_of : List Kept → List Sense
slots_of slots = reverse (map seen slots)
