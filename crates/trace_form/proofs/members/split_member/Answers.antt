use Rattle.std.proofs.Common.{ap, sym, ◌∙◌, option_map}
use Rattle.serde_json.proofs.Views.{view-Object, view-lookup}
use Rattle.serde_json.specs.Find.{get, get_member}
use Rattle.serde_json.specs.View.{view, members_view}
use Rattle.trace_form.proofs.MemberLemmas.{removed-others}
use Rattle.trace_form.proofs.members.split_member.Goals as goal

-- what is taken out of the map is what the name finds
pub returns-in-Object-clause-value : goal.returns-in-Object-clause-value
returns-in-Object-clause-value c =
    ap (λ found. option_map view found) c.remove-member.ensures.value
    ∙ view-lookup c.args.name.now c.in-Object.members.entries
    ∙ sym (ap (λ value. get c.args.name.now value) (ap view c.in-Object.is ∙ view-Object c.in-Object.members))

-- another name finds what it found
pub returns-in-Object-clause-others : goal.returns-in-Object-clause-others
returns-in-Object-clause-others c other apart =
    ap (λ value. get other value) (view-Object _)
    ∙ ap (λ entries. get_member other (members_view entries)) c.remove-member.ensures.entries
    ∙ removed-others c.args.name.now other c.in-Object.members.entries apart
    ∙ sym (ap (λ value. get other value) (ap view c.in-Object.is ∙ view-Object c.in-Object.members))
