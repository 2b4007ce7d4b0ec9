-- A ruleset that is executed is meant: it stands where the document has it.
use Rattle.std.proofs.Common.{◌≡◌, ◌&&◌, ◌==◌, ℕ, Bool, true, false, not, cond, List, [], ◌∷◌, map, slice_get, is_none, Option, None, Some, option_map, option_and_then, unwrap_or, IfSome, IsUtf8, codes, bytes_eq, refl, sym, ap, ◌∙◌, subst, true≢false}
use Rattle.std.specs.List.{All, AllByRecursion, position}
use Rattle.std.specs.Option.{option_map_or}
use Rattle.std.proofs.lemmas.List.Elements.{All-from_recursion}
use Rattle.std.proofs.lemmas.Option.{slice_get-map}
use Rattle.std.proofs.lemmas.Slice.Eq.{bytes_eq-Decides}
use Rattle.serde_json.specs.Data.{Data}
use Rattle.override_plan.specs.declared.overrides.Override.{Override}
use Rattle.ruleset_model.specs.declared.phase.Phase.{Phase}
use Rattle.ruleset_model.specs.declared.phase.Phase.TheVariants as phase
use Rattle.ruleset_model.specs.declared.ruleset.Ruleset.{Ruleset}
use Rattle.ruleset_model.specs.declared.ruleset.RulesetKind.{RulesetKind}
use Rattle.ruleset_model.specs.declared.ruleset.RulesetKind.TheVariants as kind
use Rattle.ruleset_model.specs.Acts.{AreUtf8, IsExecution, is_executable, names_of}
use Rattle.ruleset_model.specs.Data.{RulesetData, set_data}
use Rattle.ruleset_model.specs.Entries.{is_zone}
use Rattle.ruleset_model.specs.Phases.{number_of, same_phase}
use Rattle.config_read.specs.Members.{text, elements, member}
use Rattle.config_read.specs.Names.{kind_name, kind_of, phase_name, phase_of}
use Rattle.config_read.specs.Executions.{has_id, meant_by, is_executable as is_meant, entry_at, overrides_at, execute_table, executed_at}
use Rattle.config_read.specs.RulesetsOf.{kind_at, set_phase_at, ruleset_at}
use Rattle.config_read.proofs.BoolLemmas.{shown, both, both_left, both_right}
use Rattle.config_read.proofs.FormedLemmas.{IsFormed, member_formed, text_utf8, elements_formed}

-- ---- the kind and the phase of what is meant

no_zone_found : (managed custom zone : Bool) → zone ≡ false
    → not (is_zone (unwrap_or (cond managed (Some kind.Managed) (cond custom (Some kind.Custom) (cond zone (Some kind.Zone) None))) kind.Custom)) ≡ true
no_zone_found true custom zone none = refl
no_zone_found false true zone none = refl
no_zone_found false false true none = absurd (true≢false none)
no_zone_found false false false none = refl

turned : (name other : List ℕ) (b : Bool) → bytes_eq other name ≡ b → bytes_eq name other ≡ false → b ≡ false
turned name other true e apart =
    absurd (true≢false (sym ((bytes_eq-Decides name other).1 (sym ((bytes_eq-Decides other name).0 e))) ∙ apart))
turned name other false e apart = refl

flipped : (b : Bool) → not b ≡ true → b ≡ false
flipped true e = absurd (true≢false (sym e))
flipped false e = refl

no_zone : (d : Data) → not (bytes_eq (text (codes "kind") d) (kind_name kind.Zone)) ≡ true → not (is_zone (kind_at d)) ≡ true
no_zone d other =
    let name = text (codes "kind") d in
    no_zone_found (bytes_eq (kind_name kind.Managed) name) (bytes_eq (kind_name kind.Custom) name) (bytes_eq (kind_name kind.Zone) name)
    (turned name (kind_name kind.Zone) (bytes_eq (kind_name kind.Zone) name) refl (flipped (bytes_eq name (kind_name kind.Zone)) other))

phase_read : (p : Phase) → phase_of (phase_name p) ≡ Some p
phase_read phase.DynamicRedirect = refl
phase_read phase.Transform = refl
phase_read phase.FirewallCustom = refl
phase_read phase.RateLimit = refl
phase_read phase.FirewallManaged = refl
phase_read phase.LateTransform = refl
phase_read phase.ResponseTransform = refl

phase_itself : (p : Phase) → same_phase p p ≡ true
phase_itself phase.DynamicRedirect = refl
phase_itself phase.Transform = refl
phase_itself phase.FirewallCustom = refl
phase_itself phase.RateLimit = refl
phase_itself phase.FirewallManaged = refl
phase_itself phase.LateTransform = refl
phase_itself phase.ResponseTransform = refl

named_phase : (d : Data) (p : Phase) → bytes_eq (text (codes "phase") d) (phase_name p) ≡ true → set_phase_at d ≡ p
named_phase d p named =
    ap (λ (name : List ℕ). unwrap_or (phase_of name) phase.FirewallCustom) ((bytes_eq-Decides (text (codes "phase") d) (phase_name p)).0 named)
    ∙ ap (λ (found : Option Phase). unwrap_or found phase.FirewallCustom) (phase_read p)

executable_at : (p : Phase) (all : List Data) (d : Data) (set : Ruleset) → set_data set ≡ ruleset_at all d → is_meant p d ≡ true → is_executable p set ≡ true
unfolding ruleset_at
executable_at p all d set same meant =
    let other = both_left (not (bytes_eq (text (codes "kind") d) (kind_name kind.Zone))) (bytes_eq (text (codes "phase") d) (phase_name p)) meant in
    let named = both_right (not (bytes_eq (text (codes "kind") d) (kind_name kind.Zone))) (bytes_eq (text (codes "phase") d) (phase_name p)) meant in
    both (not (is_zone set.kind)) (same_phase set.phase p)
    (ap (λ (s : RulesetData). not (is_zone s.kind)) same ∙ no_zone d other)
    (ap (λ (s : RulesetData). same_phase s.phase p) same ∙ ap (λ (q : Phase). same_phase q p) (named_phase d p named) ∙ phase_itself p)

-- ---- where it stands

-- a ruleset that is read where the document has one, and that may be executed
pub record IsMeant (sets : List Ruleset) (p : Phase) (place : ℕ) : Type 0 where
  pub set : Ruleset
  pub stands : slice_get sets place ≡ Some set
  pub is_executable : is_executable p set ≡ true

same_some : {A : Type 0} (x y : A) → Some x ≡ Some y → x ≡ y
same_some x y e = cc

set_found : (p : Phase) (all : List Data) (sets : List Ruleset) (place : ℕ) (d : Data) (found : Option Ruleset) → slice_get sets place ≡ found
    → option_map set_data found ≡ Some (ruleset_at all d) → is_meant p d ≡ true → IsMeant sets p place
set_found p all sets place d None e same meant = absurd cc
set_found p all sets place d (Some set) e same meant =
    record { set = set; stands = e; is_executable = executable_at p all d set (same_some (set_data set) (ruleset_at all d) same) meant }

data_found : (p : Phase) (all : List Data) (sets : List Ruleset) → map set_data sets ≡ map (ruleset_at all) all → (place : ℕ) (found : Option Data)
    → slice_get all place ≡ found → is_none found ≡ false → not (option_map_or (is_meant p) found false) ≡ false → IsMeant sets p place
data_found p all sets same place None e some meant = absurd (true≢false some)
data_found p all sets same place (Some d) e some meant =
    set_found p all sets place d (slice_get sets place) refl
    (sym (slice_get-map set_data sets place) ∙ ap (λ (kept : List RulesetData). slice_get kept place) same
    ∙ slice_get-map (ruleset_at all) all place ∙ ap (λ (found : Option Data). option_map (ruleset_at all) found) e)
    (shown (is_meant p d) meant)

place_found : (p : Phase) (all : List Data) (sets : List Ruleset) → map set_data sets ≡ map (ruleset_at all) all → (found : Option ℕ)
    → is_none (option_and_then (slice_get all) found) ≡ false → not (option_map_or (is_meant p) (option_and_then (slice_get all) found) false) ≡ false
    → IsMeant sets p (unwrap_or found 0)
place_found p all sets same None some meant = absurd (true≢false some)
place_found p all sets same (Some place) some meant = data_found p all sets same place (slice_get all place) refl some meant

-- ---- overrides

names_text : (name : List ℕ) (ds : List Data) → AllByRecursion IsFormed ds → AllByRecursion IsUtf8 (names_of (map (entry_at name) ds))
names_text name [] formed = tt
names_text name (d ∷ ds) formed = (text_utf8 name d formed.0, names_text name ds formed.1)

entries_text : (name member_name : List ℕ) (d : Data) → IsFormed d → AreUtf8 (names_of (map (entry_at name) (elements member_name d)))
entries_text name member_name d formed =
    All-from_recursion IsUtf8 (names_of (map (entry_at name) (elements member_name d))) (names_text name (elements member_name d) (elements_formed member_name d formed))

pub execution_valid : (p : Phase) (all : List Data) (sets : List Ruleset) (place : List ℕ) (d : Data) → map set_data sets ≡ map (ruleset_at all) all
    → IsFormed d → execute_table all p place d None → IsExecution sets p (executed_at all d) (overrides_at (member (codes "overrides") d))
unfolding execute_table overrides_at
execution_valid p all sets place d same formed passed =
    let meant = place_found p all sets same (position (has_id (text (codes "id") d)) all) passed.0.1.0 passed.0.1.1 in
    let held = member_formed (codes "overrides") d formed in record {
      meant = (meant.set, meant.stands, meant.is_executable);
      tags = entries_text (codes "category") (codes "categories") (member (codes "overrides") d) held;
      rules = entries_text (codes "id") (codes "rules") (member (codes "overrides") d) held;
    }
