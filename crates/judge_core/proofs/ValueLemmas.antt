-- The value of an expression, as a filter tells it.
use Rattle.std.proofs.Common.{◌≡◌, List, Option, sym, ap, ◌∙◌, subst}
use Rattle.edge_base.specs.declared.message.Reply.{Reply}
use Rattle.edge_fields.specs.declared.value.Value.{Value}
use Rattle.list_store.specs.Listed.{TellsLists}
use Rattle.list_store.specs.declared.part.ListPart.{ListPart}
use Rattle.ruleset_model.specs.ConfigParts.{ConfigParts}
use Rattle.ruleset_model.specs.FilterParts.{FilterParts}
use Rattle.tree_eval.specs.Settings.{setting_of, IsValueOf}
use Rattle.type_check.specs.Meaning.{value_of}
use Rattle.judge_core.specs.declared.carried.State.{State}
use Rattle.judge_core.specs.Places.{carried_of}
use Rattle.judge_core.specs.Values.{Listed, AreTold, value_on}

pub value_here : (listed : Listed) (config : ConfigParts) (lists : List ListPart) (reply : Option Reply) (filter : FilterParts) (state : State)
    (found : Option Value) → AreTold listed config → lists ≡ config.lists → reply ≡ state.reply
    → IsValueOf lists state.request reply filter.tree found → found ≡ value_on listed filter (carried_of config state)
value_here listed config lists reply filter state found lists_told same_lists same_reply is =
    is listed (subst (TellsLists listed) (sym same_lists) lists_told.told)
    ∙ ap (λ r. value_of (setting_of listed state.request r) filter.tree) same_reply
