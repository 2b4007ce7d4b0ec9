-- Which ruleset is meant, by its place.
use Rattle.std.proofs.Common.{◌≡◌, ◌<◌, ℕ, true, false, not, List, map, length, get_or, codes, Option, None, Some, option_map, option_and_then, slice_get, sym, ap, ◌∙◌, inl, inr}
use Rattle.std.specs.List.{position}
use Rattle.std.specs.Option.{option_map_or}
use Rattle.std.specs.Prelude.{is_none}
use Rattle.std.proofs.lemmas.Option.{slice_get-map, slice_get-get_or}
use Rattle.serde_json.specs.Data.{Data}
use Rattle.serde_json.specs.View.{view}
use Rattle.serde_json.specs.declared.value.Value.{Value}
use Rattle.ruleset_model.specs.declared.phase.Phase.{Phase}
use Rattle.config_read.specs.declared.fault.Cause.TheVariants as cause
use Rattle.config_read.specs.declared.fault.ConfigFault.{ConfigFault}
use Rattle.config_read.specs.declared.fault.ConfigFault.TheVariants as fault
use Rattle.config_read.specs.Places.{child}
use Rattle.config_read.specs.Refusals.{Refuses, Tells}
use Rattle.config_read.specs.Members.{text, needed_text}
use Rattle.config_read.specs.Executions.{has_id, meant_by, is_executable, meant_table}

-- the ruleset at the place
pub meant_at : (all : List Value) (id own : List ℕ) (at : ℕ) (set : Value) → Some at ≡ position (has_id own) (map view all) → at < length all
    → set ≡ get_or all at set → own ≡ id → meant_by (map view all) id ≡ Some (view set)
meant_at all id own at set found within is same =
    ap (λ name. meant_by (map view all) name) (sym same)
    ∙ ap (λ place. option_and_then (slice_get (map view all)) place) (sym found)
    ∙ slice_get-map view all at
    ∙ ap (λ one. option_map view one) (slice_get-get_or all at set within)
    ∙ ap (λ one. Some (view one)) (sym is)

-- no ruleset has the id
pub not_meant : (all : List Data) (phase : Phase) (place : List ℕ) (d : Data) (own : List ℕ) (e : ConfigFault) → needed_text place (codes "id") d None
    → None ≡ position (has_id own) all → own ≡ text (codes "id") d → Tells e (child place (codes "id")) cause.UnknownRuleset
    → Refuses e (meant_table all phase place d)
not_meant all phase place d own (fault.Refused at why) here none same told =
    inr (here, inl (ap (λ name. is_none (meant_by all name)) (sym same) ∙ ap (λ one. is_none (option_and_then (slice_get all) one)) (sym none), λ i. record { place = told.0 i; cause = told.1 i }))
not_meant all phase place d own fault.Memory here none same told = tt

-- the ruleset may not be executed
pub not_executable : (all : List Data) (phase : Phase) (place : List ℕ) (d set : Data) (e : ConfigFault) → needed_text place (codes "id") d None
    → meant_by all (text (codes "id") d) ≡ Some set → not (is_executable phase set) ≡ true → Tells e (child place (codes "id")) cause.ActionPlace
    → Refuses e (meant_table all phase place d)
not_executable all phase place d set (fault.Refused at why) here found test told =
    inr (here, inr (ap is_none found, (ap (λ one. not (option_map_or (is_executable phase) one false)) found ∙ test, λ i. record { place = told.0 i; cause = told.1 i })))
not_executable all phase place d set fault.Memory here found test told = tt
