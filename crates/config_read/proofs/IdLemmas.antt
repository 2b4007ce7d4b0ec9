-- Ids that are kept: one more, and the first place of each.
use Rattle.std.proofs.Common.{◌≡◌, ℕ, ◌+◌, ◌<◌, Bool, true, false, cond, ◌||◌, List, [], ◌∷◌, ◌++◌, length, map, drop, get_or, codes, Option, None, Some, option_and_then, is_some, bytes_eq, refl, sym, ap, subst, ◌∙◌}
use Rattle.std.specs.Borrow.{Bor}
use Rattle.std.specs.BTreeMap.{BTreeMap, is_at}
use Rattle.std.specs.Cmp.Lexicographic.{slice_cmp}
use Rattle.std.specs.List.{list_any, position, position_from}
use Rattle.std.specs.Map.{lookup}
use Rattle.std.specs.Option.{option_map_or}
use Rattle.std.specs.Ordering.{nat_cmp}
use Rattle.std.proofs.Math.Seq.{drop-length}
use Rattle.std.proofs.lemmas.Cmp.{nat_list_eq_equiv}
use Rattle.std.proofs.lemmas.Iterator.Adapters.{position_from-zero}
use Rattle.std.proofs.lemmas.List.{drop_more, map-append}
use Rattle.std.proofs.lemmas.List.Folds.{list_any-append}
use Rattle.serde_json.specs.Find.{get, as_str}
use Rattle.serde_json.specs.View.{view}
use Rattle.serde_json.specs.declared.value.Value.{Value}
use Rattle.config_read.specs.Executions.{has_id}
use Rattle.ruleset_model.specs.Data.{RuleData, rule_data, RulesetData, set_data}
use Rattle.ruleset_model.specs.declared.ruleset.Rule.{Rule}
use Rattle.ruleset_model.specs.declared.ruleset.Ruleset.{Ruleset}
use Rattle.config_read.specs.Ids.{place_of, is_kept, Keeps, AreIdsOf, AreSetIdsOf}

abbrev pub Ids : Type 0
Ids = BTreeMap (Bor (List ℕ)) ℕ

-- the ids that are kept are those of these elements
abbrev pub AreOwn : {X : Type 0} → (X → List ℕ) → Ids → List X → Type 0
AreOwn own ids xs = (id : List ℕ) → is_kept ids id ≡ list_any (λ x. bytes_eq id (own x)) xs

-- no id is kept
pub none_kept : {X : Type 0} (own : X → List ℕ) (ids : Ids) → ids.entries ≡ [] → AreOwn own ids []
none_kept own ids empty id = ap (λ entries. is_some (lookup (is_at (λ kept. slice_cmp nat_cmp id kept.now)) entries)) empty

kept_now : (test : Bool) (at : ℕ) (before : Option ℕ) → is_some (cond test (Some at) before) ≡ (is_some before || (test || false))
kept_now true at None = refl
kept_now true at (Some n) = refl
kept_now false at None = refl
kept_now false at (Some n) = refl

pub one_more : {X : Type 0} (own : X → List ℕ) (old new : Ids) (xs : List X) (x : X) (at : ℕ) → AreOwn own old xs → Keeps old new (own x) at
    → AreOwn own new (xs ++ x ∷ [])
one_more own old new xs x at before kept id =
    ap is_some (kept id)
    ∙ kept_now (bytes_eq (own x) id) at (place_of old id)
    ∙ ap (λ known. known || (bytes_eq (own x) id || false)) (before id)
    ∙ ap (λ test. list_any (λ y. bytes_eq id (own y)) xs || (test || false)) (nat_list_eq_equiv.symm (own x) id)
    ∙ sym (list_any-append (λ y. bytes_eq id (own y)) xs (x ∷ []))

-- rules
pub no_rules : (ids : Ids) → ids.entries ≡ [] → AreIdsOf ids []
no_rules ids empty = none_kept (λ (rule : RuleData). rule.id) ids empty

pub one_more_rule : (old new : Ids) (rules all : List Rule) (rule : Rule) (at : ℕ) → AreIdsOf old (map rule_data rules) → Keeps old new (rule_data rule).id at
    → all ≡ rules ++ rule ∷ [] → AreIdsOf new (map rule_data all)
one_more_rule old new rules all rule at before kept pushed =
    subst (AreIdsOf new) (sym (ap (map rule_data) pushed ∙ map-append rule_data rules (rule ∷ [])))
    (one_more (λ (one : RuleData). one.id) old new (map rule_data rules) (rule_data rule) at before kept)

-- rulesets
pub no_sets : (ids : Ids) → ids.entries ≡ [] → AreSetIdsOf ids []
no_sets ids empty = none_kept (λ (set : RulesetData). set.id) ids empty

pub one_more_set : (old new : Ids) (sets all : List Ruleset) (set : Ruleset) (at : ℕ) → AreSetIdsOf old (map set_data sets) → Keeps old new (set_data set).id at
    → all ≡ sets ++ set ∷ [] → AreSetIdsOf new (map set_data all)
one_more_set old new sets all set at before kept pushed =
    subst (AreSetIdsOf new) (sym (ap (map set_data) pushed ∙ map-append set_data sets (set ∷ [])))
    (one_more (λ (one : RulesetData). one.id) old new (map set_data sets) (set_data set) at before kept)

-- the ids that are kept have the first of their places from here on
pub record AreFirstFrom (ids : Ids) (values : List Value) (at : ℕ) : Type 0 where
  pub places : (id : List ℕ) → place_of ids id ≡ position_from (has_id id) at (map view (drop at values))

-- no value is left
pub none_left : (values : List Value) (ids : Ids) → ids.entries ≡ [] → AreFirstFrom ids values (length values)
none_left values ids empty = record {
  places = λ id.
      ap (λ entries. lookup (is_at (λ kept. slice_cmp nat_cmp id kept.now)) entries) empty
      ∙ sym (ap (λ left. position_from (has_id id) (length values) (map view left)) (drop-length values));
}

-- the place of the value here, or the first one behind
one_back : (values : List Value) (at : ℕ) (value : Value) (id : List ℕ) → at < length values → value ≡ get_or values at value
    → position_from (has_id id) at (map view (drop at values))
    ≡ cond (has_id id (view value)) (Some at) (position_from (has_id id) (at + 1) (map view (drop (at + 1) values)))
one_back values at value id below is =
    ap (λ left. position_from (has_id id) at (map view left)) (drop_more values at value below)
    ∙ ap (λ one. cond (has_id id (view one)) (Some at) (position_from (has_id id) (at + 1) (map view (drop (at + 1) values)))) (sym is)

-- the value here has an id
pub with_id : (values : List Value) (at : ℕ) (value : Value) (old new : Ids) (own : List ℕ) → at < length values → value ≡ get_or values at value
    → Some own ≡ option_and_then as_str (get (codes "id") (view value)) → AreFirstFrom old values (at + 1) → Keeps old new own at
    → AreFirstFrom new values at
with_id values at value old new own below is said before kept = record {
  places = λ id.
      kept id
      ∙ ap (λ test. cond test (Some at) (place_of old id)) (nat_list_eq_equiv.symm own id ∙ ap (λ given. option_map_or (bytes_eq id) given false) said)
      ∙ ap (λ rest. cond (has_id id (view value)) (Some at) rest) (before.places id)
      ∙ sym (one_back values at value id below is);
}

-- it has none
pub without_id : (values : List Value) (at : ℕ) (value : Value) (ids : Ids) → at < length values → value ≡ get_or values at value
    → None ≡ option_and_then as_str (get (codes "id") (view value)) → AreFirstFrom ids values (at + 1) → AreFirstFrom ids values at
without_id values at value ids below is said before = record {
  places = λ id.
      ap (λ given. cond (option_map_or (bytes_eq id) given false) (Some at) (place_of ids id)) said
      ∙ ap (λ rest. cond (has_id id (view value)) (Some at) rest) (before.places id)
      ∙ sym (one_back values at value id below is);
}

-- all values are behind
pub from_first : (values : List Value) (ids : Ids) → AreFirstFrom ids values 0 → (id : List ℕ) → place_of ids id ≡ position (has_id id) (map view values)
from_first values ids first id = first.places id ∙ sym (position_from-zero (has_id id) (map view values))
