-- Rulesets, and a whole configuration, are read again as they are printed.
use Rattle.std.proofs.Common.{◌≡◌, ◌≤◌, ◌&&◌, ◌||◌, ◌+◌, ℕ, Bool, true, false, cond, List, [], ◌∷◌, ◌++◌, map, length, bytes_eq, nat_lt, is_none, Option, None, Some, fold, unwrap_or, refl, sym, ap, ◌∙◌, ap₂, subst, codes, true≢false}
use Rattle.std.specs.List.{sum_by, position_from}
use Rattle.std.proofs.lemmas.Bool.{le-ltb}
use Rattle.std.proofs.lemmas.List.{length-map}
use Rattle.serde_json.specs.Data.{Data}
use Rattle.serde_json.specs.View.{items_of}
use Rattle.edge_fields.specs.declared.kind.Basic.{Basic}
use Rattle.list_store.specs.declared.part.ListPart.{ListPart}
use Rattle.list_store.specs.Listed.{list_kinds_of}
use Rattle.ruleset_model.specs.ConfigParts.{ConfigParts}
use Rattle.ruleset_model.specs.declared.phase.Phase.{Phase}
use Rattle.ruleset_model.specs.declared.phase.Phase.TheVariants as phase
use Rattle.ruleset_model.specs.declared.ruleset.Rule.{Rule}
use Rattle.ruleset_model.specs.declared.ruleset.Ruleset.{Ruleset}
use Rattle.ruleset_model.specs.declared.ruleset.RulesetKind.{RulesetKind}
use Rattle.ruleset_model.specs.declared.ruleset.RulesetKind.TheVariants as kind
use Rattle.ruleset_model.specs.Data.{RulesetData, set_data, rule_data, config_data}
use Rattle.ruleset_model.specs.Entries.{is_zone, is_entry, entry_of, has_ruleset as had_ruleset}
use Rattle.ruleset_model.specs.Forms.{is_id}
use Rattle.ruleset_model.specs.Phases.{same_phase}
use Rattle.ruleset_model.specs.Valid.{EachAfter, IsRuleValid, IsRulesetValid, IsValid}
use Rattle.config_read.specs.Judged.{Judgement}
use Rattle.config_read.specs.Places.{top, child, nth}
use Rattle.config_read.specs.Refusals.{each}
use Rattle.config_read.specs.Members.{list_of}
use Rattle.config_read.specs.Names.{kind_name, kind_of, phase_name, phase_of}
use Rattle.config_read.specs.ListsOf.{form_table, lists_table, lists_at, list_at, each_list_table}
use Rattle.config_read.specs.RulesOf.{rule_table, rule_at}
use Rattle.config_read.specs.RulesetsOf.{has_ruleset, has_entry, rules_of, kind_at, set_phase_at, set_head_table, rules_table, ruleset_table, ruleset_at, rules_in_all, rulesets_table, rulesets_at}
use Rattle.config_read.specs.Reads.{document_table, stands}
use Rattle.config_read.specs.Printed.{printed_list, printed_rule, printed_set, printed}
use Rattle.config_read.proofs.PrintedEach.{list_of-items_of, each_passes, each_back}
use Rattle.config_read.proofs.PrintedExecutions.{AreIdsNew}
use Rattle.config_read.proofs.PrintedLimits.{AreSome}
use Rattle.config_read.proofs.PrintedLists.{few, length-printed, lists_pass, lists_back}
use Rattle.config_read.proofs.PrintedMembers.{is_there}
use Rattle.config_read.proofs.PrintedRules.{rule_passes, rule_back}
use Rattle.config_read.proofs.PrintedValues.{Takes, phase_found}

-- ---- the head of a ruleset

kind_found : (k : RulesetKind) → kind_of (kind_name k) ≡ Some k
kind_found kind.Managed = refl
kind_found kind.Custom = refl
kind_found kind.Zone = refl

kind_again : (sets : List Ruleset) (set : Ruleset) → kind_at (printed_set sets set) ≡ set.kind
unfolding printed_set
kind_again sets set = ap (λ (o : Option RulesetKind). unwrap_or o kind.Custom) (kind_found set.kind)

phase_again : (sets : List Ruleset) (set : Ruleset) → set_phase_at (printed_set sets set) ≡ set.phase
unfolding printed_set
phase_again sets set = ap (λ (o : Option Phase). unwrap_or o phase.FirewallCustom) (phase_found set.phase)

sets_had : (earlier : List Ruleset) (id : List ℕ) → has_ruleset (map set_data earlier) id ≡ had_ruleset earlier id
sets_had [] id = refl
sets_had (set ∷ earlier) id = ap (λ (b : Bool). bytes_eq id set.id || b) (sets_had earlier id)

entry_at_head : (test : Bool) (n : ℕ) (more : Option ℕ) (rest : Bool) → cond test (Some n) more ≡ None → (more ≡ None → rest ≡ false) → (test || rest) ≡ false
entry_at_head true n more rest none later = absurd cc
entry_at_head false n more rest none later = later none

no_entry_from : (earlier : List Ruleset) (p : Phase) (n : ℕ) → position_from (is_entry p) n earlier ≡ None → has_entry (map set_data earlier) p ≡ false
no_entry_from [] p n none = refl
no_entry_from (set ∷ earlier) p n none =
    entry_at_head (is_entry p set) n (position_from (is_entry p) (n + 1) earlier) (has_entry (map set_data earlier) p) none (no_entry_from earlier p (n + 1))

no_entry : (k : RulesetKind) (earlier : List Ruleset) (p : Phase) (zone : Bool) → is_zone k ≡ zone → (is_zone k ≡ true → entry_of earlier p ≡ None)
    → (is_zone k && has_entry (map set_data earlier) p) ≡ false
no_entry k earlier p true e none = rw (no_entry_from earlier p 0 (none e), e) refl
no_entry k earlier p false e none = rw e refl

-- a ruleset that may stand behind others
head_passes : (lists : List ListPart) (sets : List Ruleset) (place : List ℕ) (earlier : List Ruleset) (set : Ruleset) → IsRulesetValid lists sets earlier set
    → set_head_table place (map set_data earlier) (printed_set sets set) None
unfolding set_head_table printed_set
head_passes lists sets place earlier set valid = (
  refl,
  (
    (refl, is_there (is_id set.id) set.id valid.id),
    (
      sets_had earlier set.id ∙ valid.new,
      (
        refl,
        (
          ((refl, refl), ap (λ (o : Option RulesetKind). is_none o) (kind_found set.kind)),
          (
            ((refl, refl), ap (λ (o : Option Phase). is_none o) (phase_found set.phase)),
            ap₂ (λ (k : RulesetKind) (p : Phase). is_zone k && has_entry (map set_data earlier) p) (kind_again sets set) (phase_again sets set)
                ∙ no_entry set.kind earlier set.phase (is_zone set.kind) refl valid.entry,
          ),
        ),
      ),
    ),
  ),
)

-- ---- the rules of a ruleset

rules_again : (sets : List Ruleset) (set : Ruleset) → rules_of (printed_set sets set) ≡ map (printed_rule sets) set.rules
unfolding printed_set
rules_again sets set = list_of-items_of (map (printed_rule sets) set.rules)

each_rule_passes : (lists : List ListPart) (judge : Judgement) (sets : List Ruleset) (place : List ℕ) (set : Ruleset) → Takes lists judge → AreSome lists → AreIdsNew sets
    → EachAfter (IsRuleValid lists sets set.kind set.phase) [] set.rules
    → each (rule_table judge (map (printed_set sets) sets) set.kind set.phase place) (rule_at (map (printed_set sets) sets) set.phase) [] (map (printed_rule sets) set.rules) None
each_rule_passes lists judge sets place set takes some new valid =
    each_passes (rule_table judge (map (printed_set sets) sets) set.kind set.phase place) (rule_at (map (printed_set sets) sets) set.phase) (printed_rule sets) rule_data
    (IsRuleValid lists sets set.kind set.phase)
    (λ earlier rule kept. rule_passes lists judge sets set.kind set.phase place earlier rule takes new kept)
    (λ earlier rule kept. rule_back lists sets set.kind set.phase earlier rule some new kept) [] set.rules valid

rules_pass : (lists : List ListPart) (judge : Judgement) (sets : List Ruleset) (place : List ℕ) (earlier : List Ruleset) (set : Ruleset) → Takes lists judge → AreSome lists → AreIdsNew sets
    → IsRulesetValid lists sets earlier set → rules_table judge (map (printed_set sets) sets) set.kind set.phase place (printed_set sets set) None
unfolding printed_set
rules_pass lists judge sets place earlier set takes some new valid = (
  refl,
  (
    few 1000 _ _ (length-printed (printed_rule sets) set.rules) valid.few,
    subst (λ (ds : List Data). each (rule_table judge (map (printed_set sets) sets) set.kind set.phase (child place (codes "rules"))) (rule_at (map (printed_set sets) sets) set.phase) [] ds None)
        (sym (rules_again sets set)) (each_rule_passes lists judge sets _ set takes some new valid.rules),
  ),
)

set_passes : (lists : List ListPart) (judge : Judgement) (sets : List Ruleset) (place : List ℕ) (earlier : List Ruleset) (set : Ruleset) → Takes lists judge → AreSome lists → AreIdsNew sets
    → IsRulesetValid lists sets earlier set → ruleset_table judge (map (printed_set sets) sets) place (map set_data earlier) (printed_set sets set) None
unfolding ruleset_table
set_passes lists judge sets place earlier set takes some new valid = (
  head_passes lists sets _ earlier set valid,
  subst (λ (k : RulesetKind). rules_table judge (map (printed_set sets) sets) k (set_phase_at (printed_set sets set)) (nth place (length (map set_data earlier))) (printed_set sets set) None)
      (sym (kind_again sets set))
      (subst (λ (p : Phase). rules_table judge (map (printed_set sets) sets) set.kind p (nth place (length (map set_data earlier))) (printed_set sets set) None)
      (sym (phase_again sets set)) (rules_pass lists judge sets _ earlier set takes some new valid)),
)

set_back : (lists : List ListPart) (sets : List Ruleset) (earlier : List Ruleset) (set : Ruleset) → AreSome lists → AreIdsNew sets
    → IsRulesetValid lists sets earlier set → ruleset_at (map (printed_set sets) sets) (printed_set sets set) ≡ set_data set
unfolding ruleset_at printed_set
set_back lists sets earlier set some new valid = λ i. record {
  id = set.id;
  name = set.name;
  kind = kind_again sets set i;
  phase = phase_again sets set i;
  rules = (ap₂ (λ (p : Phase) (ds : List Data). map (rule_at (map (printed_set sets) sets) p) ds) (phase_again sets set) (rules_again sets set)
      ∙ each_back (rule_at (map (printed_set sets) sets) set.phase) (printed_rule sets) rule_data (IsRuleValid lists sets set.kind set.phase)
      (λ before rule kept. rule_back lists sets set.kind set.phase before rule some new kept) [] set.rules valid.rules) i;
}

-- ---- all rulesets

rules_counted : (sets : List Ruleset) (set : Ruleset) → length (rules_of (printed_set sets set)) ≡ length set.rules
rules_counted sets set = ap length (rules_again sets set) ∙ length-map set.rules (printed_rule sets)

all_counted : (all xs : List Ruleset) (before : ℕ)
    → fold (λ (n : ℕ) (d : Data). n + length (rules_of d)) before (map (printed_set all) xs) ≡ fold (λ (n : ℕ) (set : Ruleset). n + length set.rules) before xs
all_counted all [] before = refl
all_counted all (set ∷ xs) before =
    ap (λ (n : ℕ). fold (λ (m : ℕ) (d : Data). m + length (rules_of d)) (before + n) (map (printed_set all) xs)) (rules_counted all set)
    ∙ all_counted all xs (before + length set.rules)

ids_new : (lists : List ListPart) (all earlier xs : List Ruleset) → EachAfter (IsRulesetValid lists all) earlier xs
    → EachAfter (λ (before : List Ruleset) (set : Ruleset). had_ruleset before set.id ≡ false) earlier xs
ids_new lists all earlier [] valid = tt
ids_new lists all earlier (set ∷ xs) valid = (valid.0.new, ids_new lists all (earlier ++ set ∷ []) xs valid.1)

each_set_passes : (lists : List ListPart) (judge : Judgement) (sets : List Ruleset) (place : List ℕ) → Takes lists judge → AreSome lists → IsValid lists sets
    → each (ruleset_table judge (map (printed_set sets) sets) place) (ruleset_at (map (printed_set sets) sets)) [] (map (printed_set sets) sets) None
each_set_passes lists judge sets place takes some valid =
    let new = ids_new lists sets [] sets valid.each_ruleset in
    each_passes (ruleset_table judge (map (printed_set sets) sets) place) (ruleset_at (map (printed_set sets) sets)) (printed_set sets) set_data (IsRulesetValid lists sets)
    (λ earlier set kept. set_passes lists judge sets place earlier set takes some new kept)
    (λ earlier set kept. set_back lists sets earlier set some new kept) [] sets valid.each_ruleset

-- what `rulesets` comes to, by its elements
sets_pass : (lists : List ListPart) (judge : Judgement) (sets : List Ruleset) (all : List Data) → all ≡ map (printed_set sets) sets
    → Takes lists judge → AreSome lists → IsValid lists sets
    → ((nat_lt 256 (length all) || nat_lt 10000 (rules_in_all all)) ≡ false)
    × each (ruleset_table judge all (child top (codes "rulesets"))) (ruleset_at all) [] all None
sets_pass lists judge sets all same takes some valid =
    subst (λ (ds : List Data). ((nat_lt 256 (length ds) || nat_lt 10000 (rules_in_all ds)) ≡ false)
    × each (ruleset_table judge ds (child top (codes "rulesets"))) (ruleset_at ds) [] ds None) (sym same) (
      ap₂ (λ (a b : Bool). a || b)
          (few 256 (map (printed_set sets) sets) (length sets) (length-map sets (printed_set sets)) valid.few_rulesets)
          (ap (λ (n : ℕ). nat_lt 10000 n) (all_counted sets sets 0) ∙ le-ltb 10000 (sum_by (λ (set : Ruleset). length set.rules) sets) valid.few_rules),
      each_set_passes lists judge sets _ takes some valid,
    )

-- ---- the document

pub printed_passes : (judge : List (List ℕ × Basic) → Judgement) (config : ConfigParts) → Takes config.lists (judge (list_kinds_of config.lists))
    → AreSome config.lists → IsValid config.lists config.rulesets → document_table judge (printed config) None
unfolding document_table lists_table rulesets_table printed
printed_passes judge config takes some valid =
    let lists_same = list_of-items_of (map printed_list config.lists) in
    let kinds_same = ap list_kinds_of (ap (map list_at) lists_same ∙ lists_back config.lists valid.lists_formed valid.lists_fine) in
    let sets_same = list_of-items_of (map (printed_set config.rulesets) config.rulesets) in (
      refl,
      (
        refl,
        (
          (
            refl,
            (
              few 64 _ _ (length-printed printed_list config.lists) valid.few_lists,
              subst (λ (ds : List Data). each_list_table (child top (codes "lists")) ds None) (sym lists_same)
                  (lists_pass _ config.lists valid.lists_formed valid.lists_fine),
            ),
          ),
          (
            refl,
            sets_pass config.lists (judge (list_kinds_of (lists_at (printed config)))) config.rulesets _ sets_same
                (subst (λ (kinds : List (List ℕ × Basic)). Takes config.lists (judge kinds)) (sym kinds_same) takes) some valid,
          ),
        ),
      ),
    )

pub printed_stands : (config : ConfigParts) → AreSome config.lists → IsValid config.lists config.rulesets → stands (printed config) ≡ config_data config
unfolding printed
printed_stands config some valid =
    let new = ids_new config.lists config.rulesets [] config.rulesets valid.each_ruleset in
    λ i. record {
      lists = (ap (map list_at) (list_of-items_of (map printed_list config.lists)) ∙ lists_back config.lists valid.lists_formed valid.lists_fine) i;
      rulesets = (ap (λ (ds : List Data). map (ruleset_at ds) ds) (list_of-items_of (map (printed_set config.rulesets) config.rulesets))
          ∙ each_back (ruleset_at (map (printed_set config.rulesets) config.rulesets)) (printed_set config.rulesets) set_data (IsRulesetValid config.lists config.rulesets)
          (λ earlier set kept. set_back config.lists config.rulesets earlier set some new kept) [] config.rulesets valid.each_ruleset) i;
    }
