-- Ids that are looked for by their order, and not by walking over all.
use Rattle.std.specs.Prelude.{◌≡◌, ℕ, Bool, List, Option, Some, is_some, bytes_eq}
use Rattle.std.specs.Borrow.{Bor}
use Rattle.std.specs.BTreeMap.{BTreeMap, get_by}
use Rattle.std.specs.Cmp.Lexicographic.{slice_cmp}
use Rattle.std.specs.List.{position}
use Rattle.std.specs.Map.{update}
use Rattle.std.specs.Ordering.{nat_cmp}
use Rattle.serde_json.specs.Data.{Data}
use Rattle.ruleset_model.specs.Data.{RuleData, RulesetData}
use Rattle.config_read.specs.Executions.{has_id}
use Rattle.config_read.specs.RulesOf.{has_rule}
use Rattle.config_read.specs.RulesetsOf.{has_ruleset}

-- the place that is kept for an id
abbrev pub place_of : BTreeMap (Bor (List ℕ)) ℕ → List ℕ → Option ℕ
place_of ids id = get_by (λ own. slice_cmp nat_cmp id own.now) ids

-- whether an id is kept
abbrev pub is_kept : BTreeMap (Bor (List ℕ)) ℕ → List ℕ → Bool
is_kept ids id = is_some (place_of ids id)

-- what is kept after one more place
abbrev pub Keeps : BTreeMap (Bor (List ℕ)) ℕ → BTreeMap (Bor (List ℕ)) ℕ → List ℕ → ℕ → Type 0
Keeps old new own at = (id : List ℕ) → place_of new id ≡ update bytes_eq (place_of old) own (Some at) id

-- each id is kept with the place of the first ruleset of the document that has it
abbrev pub AreFirstPlaces : BTreeMap (Bor (List ℕ)) ℕ → List Data → Type 0
AreFirstPlaces ids all = (id : List ℕ) → place_of ids id ≡ position (has_id id) all

-- the ids that are kept are those of these rules
abbrev pub AreIdsOf : BTreeMap (Bor (List ℕ)) ℕ → List RuleData → Type 0
AreIdsOf ids rules = (id : List ℕ) → is_kept ids id ≡ has_rule rules id

-- the ids that are kept are those of these rulesets
abbrev pub AreSetIdsOf : BTreeMap (Bor (List ℕ)) ℕ → List RulesetData → Type 0
AreSetIdsOf ids sets = (id : List ℕ) → is_kept ids id ≡ has_ruleset sets id
