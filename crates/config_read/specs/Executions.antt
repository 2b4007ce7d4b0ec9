-- The parameters of `execute`: which ruleset is meant, and the overrides of its rules.
use Rattle.std.specs.Prelude.{ℕ, Bool, false, not, ◌&&◌, is_none, List, [], map, length, codes, Option, None, Some, option_and_then, slice_get, bytes_eq}
use Rattle.std.specs.List.{position}
use Rattle.std.specs.Option.{option_map_or, unwrap_or}
use Rattle.serde_json.specs.Data.{Data}
use Rattle.serde_json.specs.Find.{get, as_bool, as_str, as_array, as_object}
use Rattle.override_plan.specs.declared.overrides.Override.{Override}
use Rattle.override_plan.specs.declared.overrides.Overrides.{Overrides}
use Rattle.override_plan.specs.declared.plain.Plain.{Plain}
use Rattle.override_plan.specs.Given.{IsGiven}
use Rattle.ruleset_model.specs.declared.phase.Phase.{Phase}
use Rattle.ruleset_model.specs.declared.ruleset.RulesetKind.TheVariants as kind
use Rattle.config_read.specs.declared.action.Action.{Action}
use Rattle.config_read.specs.declared.action.Action.TheVariants as action
use Rattle.config_read.specs.declared.fault.Cause.TheVariants as cause
use Rattle.config_read.specs.Places.{child, nth}
use Rattle.config_read.specs.Refusals.{Table, ◌▸◌, refuse, each}
use Rattle.config_read.specs.Members.{text, elements, member, differs, an_object, typed, needed_text}
use Rattle.config_read.specs.Names.{kind_name, phase_name, action_of, plain_of, override_of}

-- ---- which ruleset is meant

-- whether a ruleset of the document has the id as its text
abbrev pub has_id : List ℕ → Data → Bool
has_id id set = option_map_or (bytes_eq id) (option_and_then as_str (get (codes "id") set)) false

-- the first ruleset of the document that has the id
abbrev pub meant_by : List Data → List ℕ → Option Data
meant_by all id = option_and_then (slice_get all) (position (has_id id) all)

-- rules of the phase may execute it: its kind isn't `zone`, and its phase is the same text
abbrev pub is_executable : Phase → Data → Bool
is_executable phase set =
    not (bytes_eq (text (codes "kind") set) (kind_name kind.Zone)) && bytes_eq (text (codes "phase") set) (phase_name phase)

-- ---- overrides

-- the action that an override gives by its name
abbrev pub override_action : Data → Option Plain
override_action d = option_and_then override_of (as_str d)

abbrev pub override_action_table : List ℕ → Data → Table
override_action_table place d =
    typed as_str place (codes "action") d
    ▸ refuse (child place (codes "action")) cause.UnknownAction (differs override_action (get (codes "action") d))

unfoldable pub override_table : List ℕ → Data → Table
override_table place d = typed as_bool place (codes "enabled") d ▸ override_action_table place d

-- it is an action that an override may give
pub plain_of_given : (a : Action) → IsGiven (plain_of a)
plain_of_given action.Block = λ x e other. absurd cc
plain_of_given action.ManagedChallenge = λ x e other. absurd cc
plain_of_given action.JsChallenge = λ x e other. absurd cc
plain_of_given action.Challenge = λ x e other. absurd cc
plain_of_given action.Log = λ x e other. absurd cc
plain_of_given action.Skip = λ x e other. absurd cc
plain_of_given action.Execute = λ x e other. absurd cc
plain_of_given action.Rewrite = λ x e other. absurd cc
plain_of_given action.Redirect = λ x e other. absurd cc

given_behind : {A : Type 0} (gives : A → Option Plain) → ((x : A) → IsGiven (gives x)) → (found : Option A) → IsGiven (option_and_then gives found)
given_behind gives given None = λ x e other. absurd cc
given_behind gives given (Some x) = given x

pub override_given : (said : Option Data) → IsGiven (option_and_then override_action said)
override_given =
    given_behind override_action (λ d. given_behind override_of (λ name. given_behind plain_of plain_of_given (action_of name)) (as_str d))

-- the action that an object gives, if it gives one
abbrev pub override_action_at : Data → Option Plain
override_action_at d = option_and_then override_action (get (codes "action") d)

-- what an object says of the rules that it is for
abbrev pub override_at : Data → Override
override_at d = record {
  enabled = option_and_then as_bool (get (codes "enabled") d);
  action = override_action_at d;
  given = override_given (get (codes "action") d);
}

-- an override for the rules with a tag, or with an id: by the name of the member that tells which
unfoldable pub entry_table : List ℕ → List ℕ → List (List ℕ × Override) → Data → Table
entry_table name entries earlier d =
    let place = nth entries (length earlier) in
    an_object place d ▸ needed_text place name d ▸ override_table place d

abbrev pub entry_at : List ℕ → Data → List ℕ × Override
entry_at name d = (text name d, override_at d)

abbrev pub each_entry_table : List ℕ → List ℕ → List Data → Table
each_entry_table name entries = each (entry_table name entries) (entry_at name) []

abbrev pub entries_table : List ℕ → List ℕ → List ℕ → Data → Table
entries_table name place member_name d =
    typed as_array place member_name d
    ▸ each_entry_table name (child place member_name) (elements member_name d)

unfoldable pub overrides_table : List ℕ → Data → Table
overrides_table place d =
    override_table place d
    ▸ entries_table (codes "category") place (codes "categories") d
    ▸ entries_table (codes "id") place (codes "rules") d

unfoldable pub overrides_at : Data → Overrides
overrides_at d = record {
  whole = override_at d;
  tags = map (entry_at (codes "category")) (elements (codes "categories") d);
  rules = map (entry_at (codes "id")) (elements (codes "rules") d);
}

-- ---- all

-- the ruleset that is meant
abbrev pub meant_table : List Data → Phase → List ℕ → Data → Table
meant_table all phase place d =
    needed_text place (codes "id") d
    ▸ refuse (child place (codes "id")) cause.UnknownRuleset (is_none (meant_by all (text (codes "id") d)))
    ▸ refuse (child place (codes "id")) cause.ActionPlace (not (option_map_or (is_executable phase) (meant_by all (text (codes "id") d)) false))

abbrev pub typed_overrides : List ℕ → Data → Table
typed_overrides place d =
    typed as_object place (codes "overrides") d
    ▸ overrides_table (child place (codes "overrides")) (member (codes "overrides") d)

unfoldable pub execute_table : List Data → Phase → List ℕ → Data → Table
execute_table all phase place d = meant_table all phase place d ▸ typed_overrides place d

-- the place of the ruleset that is meant
abbrev pub executed_at : List Data → Data → ℕ
executed_at all d = unwrap_or (position (has_id (text (codes "id") d)) all) 0

-- which ruleset is executed, and with which overrides
abbrev pub execution_parts : List Data → Data → ℕ × Overrides
execution_parts all d = (executed_at all d, overrides_at (member (codes "overrides") d))
