use Rattle.std.proofs.Common.{sym, ap, ◌∙◌}
use Rattle.std.specs.Option.{option_and_then}
use Rattle.edge_fields.specs.Values.{text_in}
use Rattle.judge_core.specs.Places.{carried_of}
use Rattle.judge_core.specs.Values.{text_on}
use Rattle.judge_core.proofs.values.text_on.Goals as goal

pub returns-in_ok-value_on-in-Computed : goal.returns-in_ok-value_on-in-Computed
returns-in_ok-value_on-in-Computed g c =
    c.text_in.ensures ∙ ap (option_and_then text_in) c.in_ok-value_on-in-Computed.ensures
    ∙ sym (ap (λ dynamic. text_on g.listed dynamic (carried_of c.args.config.now c.args.state.now)) c.in-Computed.is)
