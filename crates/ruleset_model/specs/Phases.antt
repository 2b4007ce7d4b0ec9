-- The phases, in the order in which they are judged.
use Rattle.std.specs.Prelude.{ℕ, Bool, true, false, ◌==◌, List, [], ◌∷◌}
use Rattle.type_check.specs.declared.fault.Place.{Place}
use Rattle.type_check.specs.declared.fault.Place.TheVariants as place
use Rattle.ruleset_model.specs.declared.phase.Phase.{Phase}
use Rattle.ruleset_model.specs.declared.phase.Phase.TheVariants as phase

-- the place of a phase in the order
abbrev pub number_of : Phase → ℕ
number_of phase.DynamicRedirect = 0
number_of phase.Transform = 1
number_of phase.FirewallCustom = 2
number_of phase.RateLimit = 3
number_of phase.FirewallManaged = 4
number_of phase.LateTransform = 5
number_of phase.ResponseTransform = 6

-- the phases of a request
abbrev pub request_phases : List Phase
request_phases =
    phase.DynamicRedirect ∷ phase.Transform ∷ phase.FirewallCustom ∷ phase.RateLimit ∷ phase.FirewallManaged
    ∷ phase.LateTransform ∷ []

-- all phases: behind those of a request the one of a reply
abbrev pub all_phases : List Phase
all_phases =
    phase.DynamicRedirect ∷ phase.Transform ∷ phase.FirewallCustom ∷ phase.RateLimit ∷ phase.FirewallManaged
    ∷ phase.LateTransform ∷ phase.ResponseTransform ∷ []

-- whether two phases are the same
abbrev pub same_phase : Phase → Phase → Bool
same_phase p q = number_of p == number_of q

-- where a condition of the phase stands, and where a text that is computed does
abbrev pub condition_place : Phase → Place
condition_place phase.ResponseTransform = place.ReplyFilter
condition_place other = place.Filter

abbrev pub value_place : Phase → Place
value_place phase.ResponseTransform = place.ReplyValue
value_place other = place.Value

-- whether the phase is one of the two firewalls, whose rules have no limits
abbrev pub is_firewall : Phase → Bool
is_firewall phase.FirewallCustom = true
is_firewall phase.FirewallManaged = true
is_firewall other = false

-- whether rules have limits in the phase
abbrev pub is_limiting : Phase → Bool
is_limiting phase.RateLimit = true
is_limiting other = false

-- whether requests are sent elsewhere in the phase
abbrev pub is_redirecting : Phase → Bool
is_redirecting phase.DynamicRedirect = true
is_redirecting other = false

-- whether the path and the query are rewritten in the phase
abbrev pub rewrites_uri : Phase → Bool
rewrites_uri phase.Transform = true
rewrites_uri other = false

-- whether headers are rewritten in the phase
abbrev pub rewrites_headers : Phase → Bool
rewrites_headers phase.LateTransform = true
rewrites_headers phase.ResponseTransform = true
rewrites_headers other = false
