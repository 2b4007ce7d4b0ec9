-- Which lists and rulesets are a valid configuration.
use Rattle.std.specs.Prelude.{◌≡◌, ◌≤◌, Bool, true, false, not, ◌&&◌, List, [], ◌∷◌, ◌++◌, length, None, is_some, IfSome, sum_by}
use Rattle.std.specs.List.{All}
use Rattle.std.specs.Str.{IsUtf8}
use Rattle.list_store.specs.declared.part.ListPart.{ListPart}
use Rattle.list_store.specs.Parts.{IsListKind, AreFineBefore}
use Rattle.type_check.specs.declared.fault.Place.TheVariants as place
use Rattle.ruleset_model.specs.declared.act.Act.{Act}
use Rattle.ruleset_model.specs.declared.act.Act.TheVariants as act
use Rattle.ruleset_model.specs.declared.limit.Characteristic.{Characteristic}
use Rattle.ruleset_model.specs.declared.limit.Counting.{Counting}
use Rattle.ruleset_model.specs.declared.limit.Limit.{Limit}
use Rattle.ruleset_model.specs.declared.phase.Phase.{Phase}
use Rattle.ruleset_model.specs.declared.ruleset.Rule.{Rule}
use Rattle.ruleset_model.specs.declared.ruleset.Ruleset.{Ruleset}
use Rattle.ruleset_model.specs.declared.ruleset.RulesetKind.{RulesetKind}
use Rattle.ruleset_model.specs.Acts.{AreUtf8, IsActValid, is_placed}
use Rattle.ruleset_model.specs.Built.{IsBuilt, speaks_of_reply}
use Rattle.ruleset_model.specs.Entries.{is_zone, entry_of, has_ruleset, has_rule}
use Rattle.ruleset_model.specs.Forms.{is_id, is_list_name}
use Rattle.ruleset_model.specs.Phases.{is_limiting, condition_place}

-- the fact holds of each element and those before it
abbrev pub EachAfter : {X : Type 0} → (List X → X → Type 0) → List X → List X → Type 0
EachAfter Fact earlier [] = Unit {0}
EachAfter Fact earlier (x ∷ xs) = Fact earlier x × EachAfter Fact (earlier ++ x ∷ []) xs

-- a list's name has its form, it is one of addresses or of texts, and its items are texts
pub record IsListFormed (part : ListPart) : Type 0 where
  pub name : is_list_name part.name ≡ true
  pub has_kind : IsListKind part.kind
  pub texts : AreUtf8 part.items

-- the expression says whether a request is counted, and whether it speaks of a reply is kept
pub record IsCountingValid (lists : List ListPart) (counting : Counting) : Type 0 where
  pub built : IsBuilt lists place.Count counting.source counting.filter
  pub reply : counting.reply ≡ speaks_of_reply counting.filter.tree

-- one to eight characteristics; the ranges of the numbers are the limit's own
pub record IsLimitValid (lists : List ListPart) (limit : Limit) : Type 0 where
  pub some : 1 ≤ length limit.characteristics
  pub few : length limit.characteristics ≤ 8
  pub characteristics : All (λ (one : Characteristic). IsBuilt lists place.Characteristic one.source one.filter) limit.characteristics
  pub counting : IfSome limit.counting (IsCountingValid lists)

-- whether a rule executes a ruleset
abbrev pub is_execute : Act → Bool
is_execute (act.Execute at overrides) = true
is_execute other = false

-- a rule of the phase with limits has one, unless it executes; no other rule has one
abbrev pub has_limit : Phase → Act → Bool
has_limit phase a = is_limiting phase && not (is_execute a)

-- a rule of a ruleset of this kind and phase, behind those before it
pub record IsRuleValid (lists : List ListPart) (all : List Ruleset) (kind : RulesetKind) (phase : Phase) (earlier : List Rule) (rule : Rule) : Type 0 where
  pub id : is_id rule.id ≡ true
  pub new : has_rule earlier rule.id ≡ false
  pub label : IsUtf8 rule.label
  pub description : IsUtf8 rule.description
  pub tags : AreUtf8 rule.tags
  pub condition : IsBuilt lists (condition_place phase) rule.source rule.filter
  pub placed : is_placed kind phase rule.act ≡ true
  pub act : IsActValid lists all phase rule.act
  pub limited : is_some rule.limit ≡ has_limit phase rule.act
  pub limit : IfSome rule.limit (IsLimitValid lists)

-- a ruleset behind those before it; a phase has one entry point at most
pub record IsRulesetValid (lists : List ListPart) (all : List Ruleset) (earlier : List Ruleset) (set : Ruleset) : Type 0 where
  pub id : is_id set.id ≡ true
  pub new : has_ruleset earlier set.id ≡ false
  pub name : IsUtf8 set.name
  pub entry : is_zone set.kind ≡ true → entry_of earlier set.phase ≡ None
  pub few : length set.rules ≤ 1000
  pub rules : EachAfter (IsRuleValid lists all set.kind set.phase) [] set.rules

-- the lists and the rulesets are a valid configuration: at most 64 lists, each with a name of its own, at most 50,000
-- items, and only addresses that are read among those of addresses; at most 256 rulesets with at most 10,000 rules in all
pub record IsValid (lists : List ListPart) (all : List Ruleset) : Type 0 where
  pub few_lists : length lists ≤ 64
  pub lists_formed : All IsListFormed lists
  pub lists_fine : AreFineBefore lists (length lists)
  pub few_rulesets : length all ≤ 256
  pub few_rules : sum_by (λ (set : Ruleset). length set.rules) all ≤ 10000
  pub each_ruleset : EachAfter (IsRulesetValid lists all) [] all
