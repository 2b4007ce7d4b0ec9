-- Rules, rulesets and a whole document of which nothing is refused are valid.
use Rattle.std.proofs.Common.{◌≡◌, ◌≤◌, ◌&&◌, ◌||◌, ℕ, Bool, true, false, not, nat_lt, List, [], ◌∷◌, ◌++◌, map, length, is_some, is_none, Option, None, Some, option_map, option_and_then, unwrap_or, IfSome, IsUtf8, codes, bytes_eq, fold, ◌+◌, refl, sym, ap, ap₂, ◌∙◌, subst, true≢false}
use Rattle.std.specs.Bool.{then_some}
use Rattle.std.specs.List.{All, AllByRecursion, list_any}
use Rattle.std.proofs.lemmas.List.{length-map, map-append}
use Rattle.std.proofs.lemmas.Str.{IsUtf8-nil}
use Rattle.serde_json.specs.Data.{Data, null, boolean, number, string, array, object}
use Rattle.serde_json.specs.Find.{get, as_str}
use Rattle.edge_fields.specs.declared.kind.Basic.{Basic}
use Rattle.list_store.specs.declared.part.ListPart.{ListPart}
use Rattle.list_store.specs.Listed.{list_kinds_of}
use Rattle.list_store.specs.Parts.{AreFineBefore}
use Rattle.ruleset_model.specs.declared.act.Act.{Act}
use Rattle.ruleset_model.specs.declared.phase.Phase.{Phase}
use Rattle.ruleset_model.specs.declared.ruleset.Rule.{Rule}
use Rattle.ruleset_model.specs.declared.ruleset.Ruleset.{Ruleset}
use Rattle.ruleset_model.specs.declared.ruleset.RulesetKind.{RulesetKind}
use Rattle.ruleset_model.specs.Acts.{AreUtf8}
use Rattle.ruleset_model.specs.ConfigParts.{ConfigParts}
use Rattle.ruleset_model.specs.Data.{config_data, ActData, LimitData, RuleData, RulesetData, act_data, limit_data, rule_data, set_data}
use Rattle.ruleset_model.specs.Entries.{is_zone, is_entry, entry_of, has_rule as has_own_rule, has_ruleset as has_own_ruleset}
use Rattle.ruleset_model.specs.Forms.{is_id}
use Rattle.ruleset_model.specs.Phases.{condition_place, same_phase}
use Rattle.ruleset_model.specs.Valid.{EachAfter, IsRuleValid, IsListFormed, IsRulesetValid, IsValid}
use Rattle.config_read.specs.declared.action.Action.{Action}
use Rattle.config_read.specs.Judged.{Judgement, judged}
use Rattle.config_read.specs.Places.{nth, child}
use Rattle.config_read.specs.Refusals.{Table, each}
use Rattle.config_read.specs.Members.{text, texts, elements, differs, value_or}
use Rattle.config_read.specs.Forms.{id}
use Rattle.config_read.specs.Names.{is_placed, is_nested}
use Rattle.config_read.specs.Parameters.{parameters, act_of}
use Rattle.config_read.specs.ListsOf.{lists_at}
use Rattle.config_read.specs.RulesOf.{action_at, has_rule, rule_id_table, head_table, condition_table, action_table, deed_table, rule_table, rule_at}
use Rattle.config_read.specs.RulesetsOf.{kind_at, set_phase_at, has_ruleset, has_entry, rules_of, set_head_table, rules_table, ruleset_table, ruleset_at, rules_in_all, has_many_rules, rulesets_table, rulesets_at}
use Rattle.config_read.specs.Reads.{document_table, stands}
use Rattle.config_read.specs.Filters.{IsRuleBuilt, AreRulesBuilt, IsRulesetBuilt, AreRulesetsBuilt}
use Rattle.config_read.proofs.BoolLemmas.{shown, neither_left, neither_right, not_behind, at_most, none_found}
use Rattle.config_read.proofs.FormedLemmas.{IsFormed, text_utf8, text_or_utf8, texts_utf8, elements_formed}
use Rattle.config_read.proofs.MappedLemmas.{any_map}
use Rattle.config_read.proofs.ValidActs.{IsActFit, act_valid, act_fit, is_data_placed, placed_as, act_placed, executes_where}
use Rattle.config_read.proofs.ValidBuilt.{built_of}
use Rattle.config_read.proofs.ValidLimits.{limits_valid, limited_where}
use Rattle.config_read.proofs.ValidLists.{lists_formed, few_lists, lists_fine}

-- ---- elements of which nothing is refused, beside what was made of them

pub each_kept : {D X Y : Type 0} (table : List X → D → Table) (stands : D → X) (shown_as : Y → X) (Given : D → Type 0) (Held : Y → Type 0) (Keeps : List Y → Y → Type 0)
    → ((earlier : List Y) (d : D) (y : Y) → table (map shown_as earlier) d None → shown_as y ≡ stands d → Given d → Held y → Keeps earlier y)
    → (earlier ys : List Y) (ds : List D) → map shown_as ys ≡ map stands ds → each table stands (map shown_as earlier) ds None
    → AllByRecursion Given ds → AllByRecursion Held ys → EachAfter Keeps earlier ys
each_kept table stands shown_as Given Held Keeps keeps earlier [] ds same passed given held = tt
each_kept table stands shown_as Given Held Keeps keeps earlier (y ∷ ys) [] same passed given held = absurd cc
each_kept {D = D} {X = X} {Y = Y} table stands shown_as Given Held Keeps keeps earlier (y ∷ ys) (d ∷ ds) same passed given held = (
  keeps earlier d y passed.0 (first same) given.0 held.0,
  each_kept table stands shown_as Given Held Keeps keeps (earlier ++ y ∷ []) ys ds (rest same)
      (subst (λ (before : List X). each table stands before ds None)
      (ap (λ (x : X). map shown_as earlier ++ x ∷ []) (sym (first same)) ∙ sym (map-append shown_as earlier (y ∷ []))) passed.1)
      given.1 held.1,
)
  where
    first : shown_as y ∷ map shown_as ys ≡ stands d ∷ map stands ds → shown_as y ≡ stands d
    first e = cc

    rest : shown_as y ∷ map shown_as ys ≡ stands d ∷ map stands ds → map shown_as ys ≡ map stands ds
    rest e = cc

-- ---- ids

id_of_text : (name : List ℕ) (is : Bool) → is_id name ≡ is → is_none (then_some is name) ≡ false → is_id name ≡ true
id_of_text name true e h = e
id_of_text name false e h = absurd (true≢false h)

id_of_data : (d : Data) → is_none (id d) ≡ false → is_id (unwrap_or (as_str d) []) ≡ true
id_of_data null h = absurd (true≢false h)
id_of_data (boolean b) h = absurd (true≢false h)
id_of_data (number n) h = absurd (true≢false h)
id_of_data (string name) h = id_of_text name (is_id name) refl h
id_of_data (array ds) h = absurd (true≢false h)
id_of_data (object ms) h = absurd (true≢false h)

id_found : (found : Option Data) → is_none found ≡ false → differs id found ≡ false → is_id (unwrap_or (option_and_then as_str found) []) ≡ true
id_found None there formed = absurd (true≢false there)
id_found (Some d) there formed = id_of_data d formed

-- ---- a rule

module _ (kinds : List (List ℕ × Basic)) (lists : List ListPart) (all : List Data) (sets : List Ruleset) (k : RulesetKind) (p : Phase) (rules : List ℕ) where
  rule_valid : map set_data sets ≡ map (ruleset_at all) all → (earlier : List Rule) (d : Data) (rule : Rule)
      → rule_table (judged kinds) all k p rules (map rule_data earlier) d None → rule_data rule ≡ rule_at all p d → IsFormed d
      → IsRuleBuilt (list_kinds_of lists) p rule → IsRuleValid lists sets k p earlier rule
  unfolding rule_table head_table rule_id_table condition_table deed_table action_table rule_at
  rule_valid read earlier d rule passed same formed built =
      let named_so : rule.id ≡ text (codes "id") d = ap (λ (one : RuleData). one.id) same in
      let source_so : rule.source ≡ text (codes "expression") d = ap (λ (one : RuleData). one.source) same in
      let does : act_data rule.act ≡ act_of all p (action_at d) (parameters d) = ap (λ (one : RuleData). one.act) same in
      let deed = passed.1.1 in
      let placed = shown (is_placed p (action_at d)) deed.0.1.1.0 in record {
        id = ap is_id named_so ∙ id_found (get (codes "id") d) passed.0.0.1.0.0 passed.0.0.1.0.1;
        new = any_map (λ (one : RuleData). bytes_eq rule.id one.id) rule_data earlier
            ∙ ap (λ (name : List ℕ). has_rule (map rule_data earlier) name) named_so ∙ passed.0.0.1.1;
        label = subst IsUtf8 (sym (ap (λ (one : RuleData). one.label) same)) (text_utf8 (codes "ref") d formed);
        description = subst IsUtf8 (sym (ap (λ (one : RuleData). one.description) same)) (text_utf8 (codes "description") d formed);
        tags = subst (λ (tags : List (List ℕ)). AreUtf8 tags) (sym (ap (λ (one : RuleData). one.tags) same)) (texts_utf8 (codes "categories") d formed);
        condition = built_of lists (condition_place p) rule.source rule.filter (subst IsUtf8 (sym source_so) (text_utf8 (codes "expression") d formed)) built.condition;
        placed = placed_as k p rule.act ∙ ap (λ (done : ActData). is_data_placed k p done) does
            ∙ act_placed (judged kinds) all k p (action_at d) _ d placed deed.0.1.1.1 deed.1.0;
        act = act_valid lists sets p rule.act
            (subst (λ (done : ActData). IsActFit sets p done) (sym does) (act_fit (judged kinds) all sets p (action_at d) _ d read formed deed.1.0)) built.act;
        limited = limited_where (judged kinds) p (action_at d) _ d rule.act rule.limit deed.1.1 (ap (λ (one : RuleData). one.limit) same)
            (executes_where all p (action_at d) (parameters d) rule.act does);
        limit = limits_valid lists (judged kinds) p (action_at d) _ d rule.limit formed deed.1.1 (ap (λ (one : RuleData). one.limit) same) built.limit;
      }

  rules_valid : map set_data sets ≡ map (ruleset_at all) all → (given : List Rule) (ds : List Data) → map rule_data given ≡ map (rule_at all p) ds
      → each (rule_table (judged kinds) all k p rules) (rule_at all p) [] ds None → AllByRecursion IsFormed ds
      → AllByRecursion (IsRuleBuilt (list_kinds_of lists) p) given → EachAfter (IsRuleValid lists sets k p) [] given
  rules_valid read given ds same passed formed built =
      each_kept (rule_table (judged kinds) all k p rules) (rule_at all p) rule_data IsFormed (IsRuleBuilt (list_kinds_of lists) p) (IsRuleValid lists sets k p)
      (rule_valid read) [] given ds same passed formed built

-- ---- a ruleset

any_entry : (earlier : List Ruleset) (p : Phase) → list_any (is_entry p) earlier ≡ has_entry (map set_data earlier) p
any_entry earlier p = any_map (λ (set : RulesetData). is_zone set.kind && same_phase set.phase p) set_data earlier

module _ (kinds : List (List ℕ × Basic)) (lists : List ListPart) (all : List Data) (sets : List Ruleset) (rulesets : List ℕ) where
  set_valid : map set_data sets ≡ map (ruleset_at all) all → (earlier : List Ruleset) (d : Data) (set : Ruleset)
      → ruleset_table (judged kinds) all rulesets (map set_data earlier) d None → set_data set ≡ ruleset_at all d → IsFormed d
      → IsRulesetBuilt (list_kinds_of lists) set → IsRulesetValid lists sets earlier set
  unfolding ruleset_table set_head_table ruleset_at
  set_valid read earlier d set passed same formed built =
      let head = passed.0 in
      let named_so : set.id ≡ text (codes "id") d = ap (λ (one : RulesetData). one.id) same in
      let kind_so : set.kind ≡ kind_at d = ap (λ (one : RulesetData). one.kind) same in
      let phase_so : set.phase ≡ set_phase_at d = ap (λ (one : RulesetData). one.phase) same in
      let rules_so : map rule_data set.rules ≡ map (rule_at all (set_phase_at d)) (rules_of d) = ap (λ (one : RulesetData). one.rules) same in
      let counts : length set.rules ≡ length (rules_of d) =
      sym (length-map set.rules rule_data) ∙ ap (λ (rules : List RuleData). length rules) rules_so ∙ length-map (rules_of d) (rule_at all (set_phase_at d)) in record {
        id = ap is_id named_so ∙ id_found (get (codes "id") d) head.1.0.0 head.1.0.1;
        new = any_map (λ (one : RulesetData). bytes_eq set.id one.id) set_data earlier
            ∙ ap (λ (name : List ℕ). has_ruleset (map set_data earlier) name) named_so ∙ head.1.1.0;
        name = subst IsUtf8 (sym (ap (λ (one : RulesetData). one.name) same)) (text_utf8 (codes "name") d formed);
        entry = λ zone. none_found (is_entry set.phase) 0 earlier
            (any_entry earlier set.phase ∙ ap (λ (q : Phase). has_entry (map set_data earlier) q) phase_so
            ∙ not_behind (is_zone (kind_at d)) (has_entry (map set_data earlier) (set_phase_at d)) head.1.1.1.1.1.1 (ap is_zone (sym kind_so) ∙ zone));
        few = subst (λ (n : ℕ). n ≤ 1000) (sym counts) (at_most 1000 (length (rules_of d)) passed.1.1.0);
        rules = subst (λ (q : RulesetKind). EachAfter (IsRuleValid lists sets q set.phase) [] set.rules) (sym kind_so)
            (subst (λ (q : Phase). EachAfter (IsRuleValid lists sets (kind_at d) q) [] set.rules) (sym phase_so)
            (rules_valid kinds lists all sets (kind_at d) (set_phase_at d) _ read set.rules (rules_of d) rules_so passed.1.1.1
            (elements_formed (codes "rules") d formed)
            (subst (λ (q : Phase). AllByRecursion (IsRuleBuilt (list_kinds_of lists) q) set.rules) phase_so built)));
      }

  sets_valid : map set_data sets ≡ map (ruleset_at all) all → each (ruleset_table (judged kinds) all rulesets) (ruleset_at all) [] all None
      → AllByRecursion IsFormed all → AllByRecursion (IsRulesetBuilt (list_kinds_of lists)) sets → EachAfter (IsRulesetValid lists sets) [] sets
  sets_valid read passed formed built =
      each_kept (ruleset_table (judged kinds) all rulesets) (ruleset_at all) set_data IsFormed (IsRulesetBuilt (list_kinds_of lists)) (IsRulesetValid lists sets)
      (set_valid read) [] sets all read passed formed built

-- ---- a document

rules_counted : (all : List Data) (sets : List Ruleset) (ds : List Data) (before : ℕ) → map set_data sets ≡ map (ruleset_at all) ds
    → fold (λ (n : ℕ) (set : Ruleset). n + length set.rules) before sets ≡ fold (λ (n : ℕ) (d : Data). n + length (rules_of d)) before ds
unfolding ruleset_at
rules_counted all [] [] before same = refl
rules_counted all [] (d ∷ ds) before same = absurd cc
rules_counted all (set ∷ sets) [] before same = absurd cc
rules_counted all (set ∷ sets) (d ∷ ds) before same =
    let here = first_counted (set_data set) (ruleset_at all d) (map set_data sets) (map (ruleset_at all) ds) same in
    let counts : length set.rules ≡ length (rules_of d) = sym (length-map set.rules rule_data) ∙ here ∙ length-map (rules_of d) (rule_at all (set_phase_at d)) in
    ap (λ (n : ℕ). fold (λ (m : ℕ) (one : Ruleset). m + length one.rules) (before + n) sets) counts
    ∙ rules_counted all sets ds (before + length (rules_of d)) (others (set_data set) (ruleset_at all d) (map set_data sets) (map (ruleset_at all) ds) same)
  where
    first_counted : (x y : RulesetData) (xs ys : List RulesetData) → x ∷ xs ≡ y ∷ ys → length x.rules ≡ length y.rules
    first_counted x y xs ys e = let one : x ≡ y = cc in ap (λ (set : RulesetData). length set.rules) one

    others : (x y : RulesetData) (xs ys : List RulesetData) → x ∷ xs ≡ y ∷ ys → xs ≡ ys
    others x y xs ys e = cc

-- the lists and the rulesets of a document are valid, where nothing of it is refused
pub document_valid : (d : Data) (lists : List ListPart) (sets : List Ruleset) → IsFormed d → document_table judged d None → lists ≡ lists_at d
    → map set_data sets ≡ rulesets_at d → AreRulesetsBuilt (list_kinds_of lists) sets → IsValid lists sets
unfolding document_table rulesets_table
document_valid d lists sets formed passed same read built =
    let all = elements (codes "rulesets") d in
    let tested = passed.1.1.1.1.0 in record {
      few_lists = subst (λ (parts : List ListPart). length parts ≤ 64) (sym same) (few_lists d passed.1.1.0);
      lists_formed = subst (λ (parts : List ListPart). All IsListFormed parts) (sym same) (lists_formed d formed passed.1.1.0);
      lists_fine = subst (λ (parts : List ListPart). AreFineBefore parts (length parts)) (sym same) (lists_fine d passed.1.1.0);
      few_rulesets = subst (λ (n : ℕ). n ≤ 256) (sym (length-map all (ruleset_at all)) ∙ ap (λ (kept : List RulesetData). length kept) (sym read) ∙ length-map sets set_data)
          (at_most 256 (length all) (neither_left (nat_lt 256 (length all)) (has_many_rules all) tested));
      few_rules = subst (λ (n : ℕ). n ≤ 10000) (sym (rules_counted all sets all 0 read))
          (at_most 10000 (rules_in_all all) (neither_right (nat_lt 256 (length all)) (has_many_rules all) tested));
      each_ruleset = sets_valid (list_kinds_of (lists_at d)) lists all sets _ read passed.1.1.1.1.1 (elements_formed (codes "rulesets") d formed) built;
    }

-- what is known of the lists of a document of which nothing is refused
pub record AreListsSound (lists : List ListPart) : Type 0 where
  pub few : length lists ≤ 64
  pub formed : All IsListFormed lists
  pub fine : AreFineBefore lists (length lists)

pub document_lists : (d : Data) (lists : List ListPart) → IsFormed d → document_table judged d None → lists ≡ lists_at d → AreListsSound lists
unfolding document_table
document_lists d lists formed passed same =
    subst AreListsSound (sym same) (record { few = few_lists d passed.1.1.0; formed = lists_formed d formed passed.1.1.0; fine = lists_fine d passed.1.1.0 })

-- a configuration of what was read is what the document stands for
pub same_config : (config : ConfigParts) (d : Data) → config.lists ≡ lists_at d → map set_data config.rulesets ≡ rulesets_at d → config_data config ≡ stands d
same_config config d lists rulesets = λ i. record { lists = lists i; rulesets = rulesets i }
