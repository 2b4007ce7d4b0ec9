use Rattle.std.proofs.Common.{◌==◌, false, ap, sym, ◌∙◌}
use Rattle.std.specs.Option.{option_map_or}
use Rattle.serde_json.specs.Events.{members_len}
use Rattle.serde_json.proofs.Views.{members_len-members_view}
use Rattle.trace_form.proofs.members.has_members.Goals as goal

pub returns-in-Some : goal.returns-in-Some
returns-in-Some c =
    ap (λ len. len == c.args.count) (c.len.ensures.len ∙ sym (members_len-members_view c.in-Some.members.now.entries))
    ∙ ap (λ found. option_map_or (λ members. members_len members == c.args.count) found false) c.in-Some.ensures
