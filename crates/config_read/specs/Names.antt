-- The names of kinds, phases and actions in a document, and where actions may stand.
use Rattle.std.specs.Prelude.{ℕ, Bool, true, false, ◌||◌, List, [], ◌∷◌, codes, Option, None, Some, option_and_then, bytes_eq}
use Rattle.std.specs.List.{find}
use Rattle.override_plan.specs.declared.plain.Plain.{Plain}
use Rattle.override_plan.specs.declared.plain.Plain.TheVariants as plain
use Rattle.ruleset_model.specs.declared.phase.Phase.{Phase}
use Rattle.ruleset_model.specs.declared.phase.Phase.TheVariants as phase
use Rattle.ruleset_model.specs.declared.ruleset.RulesetKind.{RulesetKind}
use Rattle.ruleset_model.specs.declared.ruleset.RulesetKind.TheVariants as kind
use Rattle.ruleset_model.specs.Phases.{all_phases, is_firewall, is_limiting, is_redirecting, rewrites_uri, rewrites_headers}
use Rattle.config_read.specs.declared.action.Action.{Action}
use Rattle.config_read.specs.declared.action.Action.TheVariants as action

-- ---- kinds

abbrev pub kind_name : RulesetKind → List ℕ
kind_name kind.Managed = codes "managed"
kind_name kind.Custom = codes "custom"
kind_name kind.Zone = codes "zone"

abbrev pub kinds : List RulesetKind
kinds = kind.Managed ∷ kind.Custom ∷ kind.Zone ∷ []

-- the kind of a name
abbrev pub kind_of : List ℕ → Option RulesetKind
kind_of name = find (λ known. bytes_eq (kind_name known) name) kinds

-- ---- phases

abbrev pub phase_name : Phase → List ℕ
phase_name phase.DynamicRedirect = codes "http_request_dynamic_redirect"
phase_name phase.Transform = codes "http_request_transform"
phase_name phase.FirewallCustom = codes "http_request_firewall_custom"
phase_name phase.RateLimit = codes "http_ratelimit"
phase_name phase.FirewallManaged = codes "http_request_firewall_managed"
phase_name phase.LateTransform = codes "http_request_late_transform"
phase_name phase.ResponseTransform = codes "http_response_headers_transform"

-- the phase of a name
abbrev pub phase_of : List ℕ → Option Phase
phase_of name = find (λ known. bytes_eq (phase_name known) name) all_phases

-- ---- actions

abbrev pub action_name : Action → List ℕ
action_name action.Block = codes "block"
action_name action.ManagedChallenge = codes "managed_challenge"
action_name action.JsChallenge = codes "js_challenge"
action_name action.Challenge = codes "challenge"
action_name action.Log = codes "log"
action_name action.Skip = codes "skip"
action_name action.Execute = codes "execute"
action_name action.Rewrite = codes "rewrite"
action_name action.Redirect = codes "redirect"

abbrev pub actions : List Action
actions =
    action.Block ∷ action.ManagedChallenge ∷ action.JsChallenge ∷ action.Challenge ∷ action.Log ∷ action.Skip ∷ action.Execute
    ∷ action.Rewrite ∷ action.Redirect ∷ []

-- the action of a name
abbrev pub action_of : List ℕ → Option Action
action_of name = find (λ known. bytes_eq (action_name known) name) actions

-- what an override may give in place of an action
abbrev pub plain_of : Action → Option Plain
plain_of action.Block = Some plain.Block
plain_of action.ManagedChallenge = Some plain.ManagedChallenge
plain_of action.JsChallenge = Some plain.JsChallenge
plain_of action.Challenge = Some plain.Challenge
plain_of action.Log = Some plain.Log
plain_of other = None

abbrev pub override_of : List ℕ → Option Plain
override_of name = option_and_then plain_of (action_of name)

-- ---- where actions may stand

-- in which phases rules may have the action
abbrev pub is_placed : Phase → Action → Bool
is_placed phase action.Redirect = is_redirecting phase
is_placed phase action.Rewrite = rewrites_uri phase || rewrites_headers phase
is_placed phase action.Skip = is_firewall phase
is_placed phase action.Execute = true
is_placed phase other = is_firewall phase || is_limiting phase

abbrev pub is_execute : Action → Bool
is_execute action.Execute = true
is_execute other = false

-- what is executed executes nothing
abbrev pub is_nested : RulesetKind → Action → Bool
is_nested kind.Zone a = false
is_nested other a = is_execute a
