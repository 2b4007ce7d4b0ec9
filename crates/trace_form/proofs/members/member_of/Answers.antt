use Rattle.std.proofs.Common.{ap, sym, ◌∙◌, option_map}
use Rattle.serde_json.proofs.Views.{view-Object, view-lookup}
use Rattle.serde_json.specs.Find.{get}
use Rattle.serde_json.specs.View.{view}
use Rattle.trace_form.proofs.members.member_of.Goals as goal

-- what is taken out of the map is what the name finds
pub returns-in-Object : goal.returns-in-Object
returns-in-Object c =
    ap (λ found. option_map view found) c.remove.ensures.value
    ∙ view-lookup c.args.name.now c.in-Object.members.entries
    ∙ sym (ap (λ value. get c.args.name.now value) (ap view c.in-Object.is ∙ view-Object c.in-Object.members))
