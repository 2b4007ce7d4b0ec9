-- Dynamic values, responses and skips are read again as they are printed.
use Rattle.std.proofs.Common.{◌≡◌, ℕ, Bool, true, false, not, List, [], ◌∷◌, map, Option, None, Some, option_map, IfSome, is_none, unwrap_or, refl, sym, ap, ◌∙◌, subst, codes}
use Rattle.serde_json.specs.Data.{Data, string, object, member, no_members}
use Rattle.serde_json.specs.View.{items_of}
use Rattle.list_store.specs.declared.part.ListPart.{ListPart}
use Rattle.type_check.specs.declared.fault.Place.{Place}
use Rattle.ruleset_model.specs.FilterParts.{FilterParts}
use Rattle.ruleset_model.specs.declared.dynamic.Dynamic.{Dynamic}
use Rattle.ruleset_model.specs.declared.dynamic.Dynamic.TheVariants as dynamic
use Rattle.ruleset_model.specs.declared.phase.Phase.{Phase}
use Rattle.ruleset_model.specs.declared.phase.Phase.TheVariants as phase
use Rattle.ruleset_model.specs.declared.skips.Skips.{Skips}
use Rattle.ruleset_model.specs.declared.verdict.Response.{Response}
use Rattle.ruleset_model.specs.Data.{dynamic_data}
use Rattle.ruleset_model.specs.Phases.{value_place}
use Rattle.ruleset_model.specs.Forms.{is_block_status, is_header_value}
use Rattle.ruleset_model.specs.Acts.{IsDynamicValid, IsResponseValid, AreSkipsValid}
use Rattle.ruleset_model.specs.Built.{IsBuilt}
use Rattle.config_read.specs.Refusals.{each}
use Rattle.config_read.specs.Members.{list_of}
use Rattle.config_read.specs.Names.{phase_name, phase_of}
use Rattle.config_read.specs.Judged.{Judgement}
use Rattle.config_read.specs.Values.{dynamic_table, dynamic_at}
use Rattle.config_read.specs.Blocks.{response_table, response_at, default_status}
use Rattle.config_read.specs.Skipped.{phase_table, phase_at, phases_table}
use Rattle.config_read.specs.Printed.{printed_dynamic, printed_response, printed_phase}
use Rattle.config_read.proofs.PrintedEach.{list_of-items_of, each_passes, each_back, after_none}
use Rattle.config_read.proofs.PrintedMembers.{is_there, is_it}

-- texts of which filters were built are taken
pub record Takes (lists : List ListPart) (judge : Judgement) : Type 0 where
  pub built : (at : Place) (text : List ℕ) (filter : FilterParts) → IsBuilt lists at text filter → judge at text None

-- ---- dynamic values

pub dynamic_passes : (lists : List ListPart) (judge : Judgement) (phase : Phase) (place : List ℕ) (value : Dynamic) → Takes lists judge
    → IsDynamicValid lists phase value → dynamic_table judge (value_place phase) place (printed_dynamic value) None
unfolding dynamic_table
dynamic_passes lists judge phase place (dynamic.Fixed text) takes valid = (refl, (refl, (refl, (refl, refl))))
dynamic_passes lists judge phase place (dynamic.Computed built source) takes valid =
    (refl, (refl, (refl, (refl, takes.built (value_place phase) source built valid))))

pub dynamic_back : (value : Dynamic) → dynamic_at (printed_dynamic value) ≡ dynamic_data value
dynamic_back (dynamic.Fixed text) = refl
dynamic_back (dynamic.Computed built source) = refl

-- ---- responses

pub response_passes : (place : List ℕ) (response : Response) → IsResponseValid response → response_table place (printed_response response) None
unfolding response_table
response_passes place response valid = (
  is_there (is_block_status response.status_code) response.status_code valid.status,
  (refl, is_there (is_header_value response.content_type) response.content_type valid.header),
)

pub response_back : (phase : Phase) (response : Response) → IsResponseValid response → response_at phase (printed_response response) ≡ response
unfolding response_at
response_back phase response valid = λ i. record {
  status_code = is_it (is_block_status response.status_code) response.status_code (default_status phase) valid.status i;
  content = response.content;
  content_type = is_it (is_header_value response.content_type) response.content_type (codes "text/plain") valid.header i;
}

-- ---- phases

pub phase_found : (p : Phase) → phase_of (phase_name p) ≡ Some p
phase_found phase.DynamicRedirect = refl
phase_found phase.Transform = refl
phase_found phase.FirewallCustom = refl
phase_found phase.RateLimit = refl
phase_found phase.FirewallManaged = refl
phase_found phase.LateTransform = refl
phase_found phase.ResponseTransform = refl

phase_passes : (phases : List ℕ) (earlier : List Phase) (p : Phase) → phase_table phases earlier (printed_phase p) None
phase_passes phases earlier p = (refl, ap (λ (found : Option Phase). is_none found) (phase_found p))

pub phases_pass : (phases : List ℕ) (ps : List Phase) → phases_table phases (list_of (items_of (map printed_phase ps))) None
phases_pass phases ps =
    subst (λ (ds : List Data). phases_table phases ds None) (sym (list_of-items_of (map printed_phase ps)))
    (each_passes (phase_table phases) phase_at printed_phase (λ p. p) (λ earlier p. Unit {0})
    (λ earlier p kept. phase_passes phases (map (λ q. q) earlier) p)
    (λ earlier p kept. phase_back p) [] ps (after_none [] ps))
  where
    phase_back : (p : Phase) → phase_at (printed_phase p) ≡ p
    phase_back p = ap (λ (found : Option Phase). unwrap_or found phase.FirewallCustom) (phase_found p)

pub phases_back : (ps : List Phase) → map phase_at (list_of (items_of (map printed_phase ps))) ≡ ps
phases_back [] = refl
phases_back (p ∷ ps) = λ i. unwrap_or (phase_found p i) phase.FirewallCustom ∷ phases_back ps i
