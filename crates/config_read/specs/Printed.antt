-- How a configuration is written as JSON: each member that is read is there, also one with its default; what a rule
-- doesn't have is left out.
use Rattle.std.specs.Prelude.{◌≡◌, ℕ, ◌/◌, Bool, true, false, List, [], ◌∷◌, map, codes, slice_get, Option, None, Some, option_map, String}
use Rattle.std.specs.declared.alloc.Global.{Global}
use Rattle.std.specs.Option.{option_map_or}
use Rattle.serde_json.specs.Data.{Data, boolean, number, unsigned, string, array, object, Members, no_members, member, put}
use Rattle.serde_json.specs.View.{items_of, members_view}
use Rattle.serde_json.specs.declared.value.Value.{Value}
use Rattle.edge_fields.specs.declared.kind.Basic.{Basic}
use Rattle.edge_fields.specs.declared.kind.Basic.TheVariants as basic
use Rattle.list_store.specs.declared.part.ListPart.{ListPart}
use Rattle.override_plan.specs.declared.overrides.Override.{Override}
use Rattle.override_plan.specs.declared.overrides.Overrides.{Overrides}
use Rattle.override_plan.specs.declared.plain.Plain.{Plain}
use Rattle.override_plan.specs.declared.plain.Plain.TheVariants as plain
use Rattle.ruleset_model.specs.ConfigParts.{ConfigParts}
use Rattle.ruleset_model.specs.declared.act.Act.{Act}
use Rattle.ruleset_model.specs.declared.act.Act.TheVariants as act
use Rattle.ruleset_model.specs.declared.act.Redirect.{Redirect}
use Rattle.ruleset_model.specs.declared.dynamic.Dynamic.{Dynamic}
use Rattle.ruleset_model.specs.declared.dynamic.Dynamic.TheVariants as dynamic
use Rattle.ruleset_model.specs.declared.limit.Characteristic.{Characteristic}
use Rattle.ruleset_model.specs.declared.limit.Counting.{Counting}
use Rattle.ruleset_model.specs.declared.limit.Limit.{Limit}
use Rattle.ruleset_model.specs.declared.phase.Phase.{Phase}
use Rattle.ruleset_model.specs.declared.rewrite.HeaderRewrite.{HeaderRewrite}
use Rattle.ruleset_model.specs.declared.rewrite.Operation.{Operation}
use Rattle.ruleset_model.specs.declared.rewrite.Operation.TheVariants as operation
use Rattle.ruleset_model.specs.declared.rewrite.Rewrite.{Rewrite}
use Rattle.ruleset_model.specs.declared.rewrite.UriRewrite.{UriRewrite}
use Rattle.ruleset_model.specs.declared.ruleset.Rule.{Rule}
use Rattle.ruleset_model.specs.declared.ruleset.Ruleset.{Ruleset}
use Rattle.ruleset_model.specs.declared.skips.Skips.{Skips}
use Rattle.ruleset_model.specs.declared.verdict.Response.{Response}
use Rattle.config_read.specs.declared.action.Action.{Action}
use Rattle.config_read.specs.declared.action.Action.TheVariants as action
use Rattle.config_read.specs.Names.{kind_name, phase_name, action_name}

-- ---- values

abbrev pub printed_number : ℕ → Data
printed_number n = number (unsigned n)

abbrev pub printed_texts : List (List ℕ) → Data
printed_texts texts = array (items_of (map string texts))

-- members with one more, where it has a value
abbrev pub put_some : List ℕ → Option Data → Members → Members
put_some name None rest = rest
put_some name (Some d) rest = put name d rest

-- what a map holds once a member was put in, where it has a value
abbrev pub HasPut : List ℕ → Option Data → List (String Global × Value) → List (String Global × Value) → Type 0
HasPut name value before after = members_view after ≡ put_some name value (members_view before)

-- members with these put in one after the other
abbrev pub put_all : Members → List (List ℕ × Data) → Members
put_all ms [] = ms
put_all ms (entry ∷ rest) = put_all (put entry.0 entry.1 ms) rest

-- ---- lists

abbrev pub list_kind_name : Basic → List ℕ
list_kind_name basic.Addr = codes "ip"
list_kind_name other = codes "text"

unfoldable pub printed_list : ListPart → Data
printed_list part = object
    (member (codes "items") (printed_texts part.items)
    (member (codes "kind") (string (list_kind_name part.kind))
    (member (codes "name") (string part.name) no_members)))

-- ---- parameters of actions

abbrev pub printed_dynamic : Dynamic → Data
printed_dynamic (dynamic.Fixed text) = object (member (codes "value") (string text) no_members)
printed_dynamic (dynamic.Computed built source) = object (member (codes "expression") (string source) no_members)

abbrev pub printed_response : Response → Data
printed_response response = object
    (member (codes "content") (string response.content)
    (member (codes "content_type") (string response.content_type)
    (member (codes "status_code") (printed_number response.status_code) no_members)))

-- the parameters of a block with a response of its own
abbrev pub response_member : Response → Data
response_member response = object (member (codes "response") (printed_response response) no_members)

abbrev pub printed_phase : Phase → Data
printed_phase phase = string (phase_name phase)

-- the id of a ruleset with the ids of its rules
abbrev pub printed_skipped : List ℕ × List (List ℕ) → List ℕ × Data
printed_skipped entry = (entry.0, printed_texts entry.1)

abbrev pub current_of : Bool → Option Data
current_of true = Some (string (codes "current"))
current_of false = None

unfoldable pub printed_skips : Skips → Data
printed_skips skips = object (put_some (codes "ruleset") (current_of skips.current)
    (member (codes "phases") (array (items_of (map printed_phase skips.phases)))
    (member (codes "rules") (object (put_all no_members (map printed_skipped skips.rules)))
    (member (codes "rulesets") (printed_texts skips.rulesets) no_members))))

-- the name of an action that an override gives
abbrev pub plain_name : Plain → List ℕ
plain_name plain.Block = codes "block"
plain_name plain.Log = codes "log"
plain_name plain.ManagedChallenge = codes "managed_challenge"
plain_name plain.JsChallenge = codes "js_challenge"
plain_name plain.Challenge = codes "challenge"
plain_name plain.Other = []

-- members with those of an override
abbrev pub put_override : Override → Members → Members
put_override said rest =
    put_some (codes "enabled") (option_map boolean said.enabled)
    (put_some (codes "action") (option_map (λ given. string (plain_name given)) said.action) rest)

-- an override with what it is for, by the name of the member that tells
unfoldable pub printed_entry : List ℕ → List ℕ × Override → Data
printed_entry name entry = object (put_override entry.1 (member name (string entry.0) no_members))

unfoldable pub printed_overrides : Overrides → Data
printed_overrides overrides = object (put_override overrides.whole
    (member (codes "categories") (array (items_of (map (printed_entry (codes "category")) overrides.tags)))
    (member (codes "rules") (array (items_of (map (printed_entry (codes "id")) overrides.rules))) no_members)))

-- the id of the ruleset at a place
abbrev pub id_at : List Ruleset → ℕ → List ℕ
id_at sets place = option_map_or (λ (set : Ruleset). set.id) (slice_get sets place) []

abbrev pub printed_execution : List Ruleset → ℕ → Overrides → Data
printed_execution sets place overrides = object
    (member (codes "id") (string (id_at sets place))
    (member (codes "overrides") (printed_overrides overrides) no_members))

unfoldable pub printed_uri : UriRewrite → Data
printed_uri uri = object (put_some (codes "query") (option_map printed_dynamic uri.query)
    (put_some (codes "path") (option_map printed_dynamic uri.path) no_members))

abbrev pub printed_change : List ℕ → Dynamic → Data
printed_change name (dynamic.Fixed text) = object
    (member (codes "operation") (string name) (member (codes "value") (string text) no_members))
printed_change name (dynamic.Computed built source) = object
    (member (codes "expression") (string source) (member (codes "operation") (string name) no_members))

abbrev pub printed_operation : Operation → Data
printed_operation (operation.Set value) = printed_change (codes "set") value
printed_operation (operation.Add value) = printed_change (codes "add") value
printed_operation operation.Remove = object (member (codes "operation") (string (codes "remove")) no_members)

-- the name of headers with what is done to them
abbrev pub printed_header : HeaderRewrite → List ℕ × Data
printed_header header = (header.name, printed_operation header.operation)

abbrev pub printed_headers : List HeaderRewrite → Data
printed_headers headers = object (put_all no_members (map printed_header headers))

unfoldable pub printed_rewrite : Rewrite → Data
printed_rewrite rewrite = object (put_some (codes "uri") (option_map printed_uri rewrite.uri)
    (put_some (codes "headers") (option_map printed_headers rewrite.headers) no_members))

unfoldable pub printed_redirect : Redirect → Data
printed_redirect redirect = object (member (codes "from_value") (object
    (member (codes "preserve_query_string") (boolean redirect.preserve_query_string)
    (member (codes "status_code") (printed_number redirect.status_code)
    (member (codes "target_url") (printed_dynamic redirect.target_url) no_members)))) no_members)

-- the name of an action
abbrev pub act_name : Act → List ℕ
act_name (act.Block response) = action_name action.Block
act_name (act.Challenge plain) = plain_name plain
act_name act.Log = action_name action.Log
act_name (act.Skip skipped) = action_name action.Skip
act_name (act.Execute place overrides) = action_name action.Execute
act_name (act.Rewrite rewrite) = action_name action.Rewrite
act_name (act.Redirect redirect) = action_name action.Redirect

-- the parameters of an action that has some
abbrev pub printed_parameters : List Ruleset → Act → Option Data
printed_parameters sets (act.Block response) = option_map response_member response
printed_parameters sets (act.Challenge plain) = None
printed_parameters sets act.Log = None
printed_parameters sets (act.Skip skipped) = Some (printed_skips skipped)
printed_parameters sets (act.Execute place overrides) = Some (printed_execution sets place overrides)
printed_parameters sets (act.Rewrite rewrite) = Some (printed_rewrite rewrite)
printed_parameters sets (act.Redirect redirect) = Some (printed_redirect redirect)

-- ---- limits

-- the texts of characteristics
abbrev pub sources_of : List Characteristic → List (List ℕ)
sources_of characteristics = map (λ (one : Characteristic). one.source) characteristics

-- the seconds of so many milliseconds
abbrev pub seconds : ℕ → ℕ
seconds milliseconds = milliseconds / 1000

-- the text of a counting expression, empty for none
abbrev pub counting_text : Option Counting → List ℕ
counting_text None = []
counting_text (Some counting) = counting.source

unfoldable pub printed_limit : Limit → Data
printed_limit limit = object
    (member (codes "characteristics") (printed_texts (sources_of limit.characteristics))
    (member (codes "counting_expression") (string (counting_text limit.counting))
    (member (codes "mitigation_timeout") (printed_number (seconds limit.timeout))
    (member (codes "period") (printed_number (seconds limit.period))
    (member (codes "requests_per_period") (printed_number limit.threshold) no_members)))))

-- ---- rules, rulesets, the document

-- what each rule has
abbrev pub rule_members : Rule → Members
rule_members rule =
    member (codes "action") (string (act_name rule.act))
    (member (codes "categories") (printed_texts rule.tags)
    (member (codes "description") (string rule.description)
    (member (codes "enabled") (boolean rule.enabled)
    (member (codes "expression") (string rule.source)
    (member (codes "id") (string rule.id)
    (member (codes "ref") (string rule.label) no_members))))))

unfoldable pub printed_rule : List Ruleset → Rule → Data
printed_rule sets rule = object (put_some (codes "action_parameters") (printed_parameters sets rule.act)
    (put_some (codes "ratelimit") (option_map printed_limit rule.limit) (rule_members rule)))

unfoldable pub printed_set : List Ruleset → Ruleset → Data
printed_set sets set = object
    (member (codes "id") (string set.id)
    (member (codes "kind") (string (kind_name set.kind))
    (member (codes "name") (string set.name)
    (member (codes "phase") (printed_phase set.phase)
    (member (codes "rules") (array (items_of (map (printed_rule sets) set.rules))) no_members)))))

unfoldable pub printed : ConfigParts → Data
printed config = object
    (member (codes "lists") (array (items_of (map printed_list config.lists)))
    (member (codes "rulesets") (array (items_of (map (printed_set config.rulesets) config.rulesets))) no_members))
