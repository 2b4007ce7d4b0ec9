use Rattle.edge_fields.proofs.PlacesLemmas.{no_places}
use Rattle.edge_fields.proofs.text_map.TextMap.new.Goals as goal

pub invariant_of-result : goal.invariant_of-result
invariant_of-result c = no_places c.new.result.items c.new-2.result c.new.ensures.items c.new-2.ensures.empty
