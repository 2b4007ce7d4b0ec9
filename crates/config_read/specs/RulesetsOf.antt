-- The rulesets of a document: `rulesets`.
use Rattle.std.specs.Prelude.{ℕ, Bool, ◌&&◌, ◌||◌, is_none, nat_lt, List, [], map, length, codes, Option, bytes_eq}
use Rattle.std.specs.List.{list_any, sum_by}
use Rattle.std.specs.Option.{unwrap_or}
use Rattle.serde_json.specs.Data.{Data}
use Rattle.serde_json.specs.Find.{as_str, as_array}
use Rattle.ruleset_model.specs.declared.phase.Phase.{Phase}
use Rattle.ruleset_model.specs.declared.phase.Phase.TheVariants as phase
use Rattle.ruleset_model.specs.declared.ruleset.RulesetKind.{RulesetKind}
use Rattle.ruleset_model.specs.declared.ruleset.RulesetKind.TheVariants as kind
use Rattle.ruleset_model.specs.declared.ruleset.Ruleset.{Ruleset}
use Rattle.ruleset_model.specs.Data.{RuleData, RulesetData}
use Rattle.ruleset_model.specs.Entries.{is_zone, is_entry}
use Rattle.ruleset_model.specs.Phases.{same_phase}
use Rattle.config_read.specs.declared.fault.Cause.TheVariants as cause
use Rattle.config_read.specs.Places.{top, child, nth}
use Rattle.config_read.specs.Refusals.{Table, ◌▸◌, refuse, each}
use Rattle.config_read.specs.Members.{text, elements, an_object, needed_form, typed, needed_text}
use Rattle.config_read.specs.Forms.{id}
use Rattle.config_read.specs.Names.{kind_of, phase_of}
use Rattle.config_read.specs.Judged.{Judgement}
use Rattle.config_read.specs.RulesOf.{rule_table, rule_at, rules_at}

-- the kind of a ruleset, by default `custom`
abbrev pub kind_at : Data → RulesetKind
kind_at d = unwrap_or (kind_of (text (codes "kind") d)) kind.Custom

-- the phase of a ruleset, by default that of custom firewall rules
abbrev pub set_phase_at : Data → Phase
set_phase_at d = unwrap_or (phase_of (text (codes "phase") d)) phase.FirewallCustom

-- whether one of these rulesets has the id
abbrev pub has_ruleset : List RulesetData → List ℕ → Bool
has_ruleset sets id = list_any (λ set. bytes_eq id set.id) sets

-- whether one of these rulesets is the entry point of the phase
abbrev pub has_entry : List RulesetData → Phase → Bool
has_entry sets phase = list_any (λ set. is_zone set.kind && same_phase set.phase phase) sets

-- the same of rulesets as they are kept
abbrev pub has_own_entry : List Ruleset → Phase → Bool
has_own_entry sets phase = list_any (is_entry phase) sets

-- the rules of a ruleset, as they stand in the document
abbrev pub rules_of : Data → List Data
rules_of d = elements (codes "rules") d

abbrev pub kind_table : List ℕ → Data → Table
kind_table place d =
    needed_text place (codes "kind") d
    ▸ refuse (child place (codes "kind")) cause.UnknownKind (is_none (kind_of (text (codes "kind") d)))

abbrev pub phase_table : List ℕ → Data → Table
phase_table place d =
    needed_text place (codes "phase") d
    ▸ refuse (child place (codes "phase")) cause.UnknownPhase (is_none (phase_of (text (codes "phase") d)))

-- what comes before the rules
unfoldable pub set_head_table : List ℕ → List RulesetData → Data → Table
set_head_table place earlier d =
    an_object place d
    ▸ needed_form id place (codes "id") d
    ▸ refuse (child place (codes "id")) cause.DuplicateId (has_ruleset earlier (text (codes "id") d))
    ▸ typed as_str place (codes "name") d
    ▸ kind_table place d
    ▸ phase_table place d
    ▸ refuse (child place (codes "phase")) cause.DuplicateEntry (is_zone (kind_at d) && has_entry earlier (set_phase_at d))

-- the rules of a ruleset of this kind and phase, which stand at the place
abbrev pub each_rule_table : Judgement → List Data → RulesetKind → Phase → List ℕ → List Data → Table
each_rule_table judge all kind phase rules = each (rule_table judge all kind phase rules) (rule_at all phase) []

abbrev pub rules_table : Judgement → List Data → RulesetKind → Phase → List ℕ → Data → Table
rules_table judge all kind phase place d =
    typed as_array place (codes "rules") d
    ▸ refuse (child place (codes "rules")) cause.TooMany (nat_lt 1000 (length (rules_of d)))
    ▸ each_rule_table judge all kind phase (child place (codes "rules")) (rules_of d)

-- a ruleset behind those before it
unfoldable pub ruleset_table : Judgement → List Data → List ℕ → List RulesetData → Data → Table
ruleset_table judge all rulesets earlier d =
    let place = nth rulesets (length earlier) in
    set_head_table place earlier d ▸ rules_table judge all (kind_at d) (set_phase_at d) place d

-- the rules of the ruleset
abbrev pub rules_under : List Data → Phase → Data → List RuleData
rules_under all phase d = rules_at all phase (rules_of d)

-- the ruleset that an object stands for
unfoldable pub ruleset_at : List Data → Data → RulesetData
ruleset_at all d = record {
  id = text (codes "id") d;
  name = text (codes "name") d;
  kind = kind_at d;
  phase = set_phase_at d;
  rules = rules_under all (set_phase_at d) d;
}

-- ---- all rulesets

-- the rules of all rulesets
abbrev pub rules_in_all : List Data → ℕ
rules_in_all all = sum_by (λ set. length (rules_of set)) all

abbrev pub each_ruleset_table : Judgement → List Data → List ℕ → List Data → Table
each_ruleset_table judge all rulesets = each (ruleset_table judge all rulesets) (ruleset_at all) []

abbrev pub has_many_rules : List Data → Bool
has_many_rules all = nat_lt 10000 (rules_in_all all)

unfoldable pub rulesets_table : Judgement → Data → Table
rulesets_table judge d =
    let all = elements (codes "rulesets") d in
    typed as_array top (codes "rulesets") d
    ▸ refuse (child top (codes "rulesets")) cause.TooMany (nat_lt 256 (length all) || has_many_rules all)
    ▸ each_ruleset_table judge all (child top (codes "rulesets")) all

-- the rulesets that a document stands for
abbrev pub rulesets_at : Data → List RulesetData
rulesets_at d = let all = elements (codes "rulesets") d in map (ruleset_at all) all
