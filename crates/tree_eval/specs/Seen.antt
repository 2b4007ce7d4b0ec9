-- What a node gives, as the meaning of expressions says it.
use Rattle.type_check.specs.Meaning.{single, spread}
use Rattle.type_check.specs.Meaning.{Sense as Meant}
use Rattle.tree_eval.specs.declared.sense.Sense.{Sense}
use Rattle.tree_eval.specs.declared.sense.Sense.TheVariants as sense

-- what the evaluator keeps of a node
abbrev pub seen : Sense → Meant
seen (sense.Single v) = single v
seen (sense.Spread items) = spread items
