use Rattle.std.proofs.Common.{Some, map, option_map, sym, ap, ◌∙◌}
use Rattle.serde_json.specs.View.{view}
use Rattle.config_read.specs.Members.{list_of}
use Rattle.config_read.proofs.MemberLemmas.{list_of-items_view}
use Rattle.config_read.proofs.members.elements_of.Goals as goal

pub returns-in-Some : goal.returns-in-Some
returns-in-Some c =
    ap (λ values. Some (map view values)) c.as_slice.ensures.value
    ∙ ap Some (sym (list_of-items_view c.in-Some.values.now.items))
    ∙ ap (λ found. option_map list_of found) c.in-Some.ensures
