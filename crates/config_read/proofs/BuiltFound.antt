-- Of a document of which nothing is refused, each filter can be built of its text.
use Rattle.std.proofs.Common.{◌≡◌, ℕ, ◌*◌, ◌%◌, ◌≤◌, Bool, true, false, ◌&&◌, nat_le, List, [], ◌∷◌, ◌++◌, map, length, codes, Option, None, Some, IfSome, option_map, unwrap_or, option_and_then, is_some, is_none, bytes_eq, if◌then◌else◌, Ok, add-zero, arith, refl, sym, ap, subst, ◌∙◌}
use Rattle.std.specs.Bool.{then_some}
use Rattle.std.specs.List.{AllByRecursion}
use Rattle.std.proofs.lemmas.Slice.Eq.{bytes_eq-Decides}
use Rattle.std.proofs.lemmas.Nat.{mod-mul-add}
use Rattle.serde_json.specs.Data.{Data, null}
use Rattle.serde_json.specs.Find.{get, as_str, as_bool, as_number, as_u64}
use Rattle.list_store.specs.Listed.{list_kinds_of}
use Rattle.type_check.specs.declared.fault.Place.{Place}
use Rattle.type_check.specs.declared.fault.Place.TheVariants as stand
use Rattle.type_check.specs.Places.{tree_at}
use Rattle.ruleset_model.specs.Built.{speaks_of_reply}
use Rattle.ruleset_model.specs.Data.{DynamicData, OperationData, sets, adds, removes, rewrites, redirects, HeaderRewriteData, UriRewriteData, RewriteData, RedirectData, LimitData, ActData, RuleData, RulesetData}
use Rattle.ruleset_model.specs.Data.{dynamic_data, uri_data, operation_data, header_data, rewrite_data, redirect_data, act_data, limit_data, rule_data, set_data}
use Rattle.override_plan.specs.declared.plain.Plain.TheVariants as plain
use Rattle.ruleset_model.specs.Ranges.{HasRanges}
use Rattle.ruleset_model.specs.FilterParts.{FilterParts}
use Rattle.ruleset_model.specs.Phases.{condition_place, value_place, rewrites_uri}
use Rattle.ruleset_model.specs.declared.act.Act.{Act}
use Rattle.ruleset_model.specs.declared.act.Act.TheVariants as act
use Rattle.ruleset_model.specs.declared.act.Redirect.{Redirect}
use Rattle.ruleset_model.specs.declared.dynamic.Dynamic.{Dynamic}
use Rattle.ruleset_model.specs.declared.dynamic.Dynamic.TheVariants as dynamic
use Rattle.ruleset_model.specs.declared.limit.Characteristic.{Characteristic}
use Rattle.ruleset_model.specs.declared.limit.Counting.{Counting}
use Rattle.ruleset_model.specs.declared.limit.Limit.{Limit}
use Rattle.ruleset_model.specs.declared.phase.Phase.{Phase}
use Rattle.ruleset_model.specs.declared.rewrite.HeaderRewrite.{HeaderRewrite}
use Rattle.ruleset_model.specs.declared.rewrite.Operation.{Operation}
use Rattle.ruleset_model.specs.declared.rewrite.Operation.TheVariants as operation
use Rattle.ruleset_model.specs.declared.rewrite.Rewrite.{Rewrite}
use Rattle.ruleset_model.specs.declared.rewrite.UriRewrite.{UriRewrite}
use Rattle.ruleset_model.specs.declared.ruleset.Rule.{Rule}
use Rattle.ruleset_model.specs.declared.ruleset.Ruleset.{Ruleset}
use Rattle.ruleset_model.specs.declared.ruleset.RulesetKind.{RulesetKind}
use Rattle.config_read.specs.declared.action.Action.{Action}
use Rattle.config_read.specs.declared.action.Action.TheVariants as action
use Rattle.config_read.specs.Answered.{IsActOfTexts, IsRuleOfTexts, IsRulesetOfTexts, AreRulesetsOfTexts}
use Rattle.config_read.specs.Blocks.{block_at}
use Rattle.config_read.specs.Executions.{executed_at, overrides_at}
use Rattle.config_read.specs.Skipped.{skips_at}
use Rattle.config_read.specs.Forms.{number_within}
use Rattle.config_read.specs.Filters.{Lists, IsFilterOf, IsCharacteristicBuilt, IsCountingBuilt, IsLimitBuilt, IsDynamicBuilt, IsOperationBuilt, IsHeaderBuilt, IsUriBuilt, IsRewriteBuilt}
use Rattle.config_read.specs.Judged.{judged, an_expression, expression_or_empty}
use Rattle.config_read.specs.Limits.{characteristic_table, held_limit_table, held_limit_at, limit_table_of, limit_at, is_limited, filled, number_or, seconds_in_a_day, milliseconds, period_at, threshold_at, timeout_at}
use Rattle.config_read.specs.Members.{text_of, text, texts, elements, member, value_or, if_there}
use Rattle.config_read.specs.Parameters.{parameters_table, act_of, parameters}
use Rattle.config_read.specs.Refusals.{Table, each}
use Rattle.config_read.specs.Rewrites.{uri_table, uri_at, is_removal, operand_table, operation_table, operation_at, header_table, header_at, each_header_table, headers_at, entries_in, in_order, parts_table, rewrite_at, redirect_table, redirect_at, redirect_status_at, target_table, target_at}
use Rattle.config_read.specs.RulesOf.{rule_table, condition_table, deed_table, rule_at, action_at}
use Rattle.config_read.specs.RulesetsOf.{ruleset_table, ruleset_at, rules_of, kind_at, set_phase_at}
use Rattle.config_read.proofs.BoolLemmas.{at_least}
use Rattle.config_read.proofs.KindFound.{kind_found}
use Rattle.config_read.specs.Values.{dynamic_table, dynamic_of, dynamic_at}

-- ---- one expression

filter_found : (lists : Lists) (at : Place) (source : List ℕ) → judged lists at source None → (built : FilterParts) × IsFilterOf lists at source built
filter_found lists at source (e, is, sound) =
    let (k, has_kind) = kind_found lists at e sound in (
      record { tree = tree_at at e; kind = k; lists = lists },
      record { expression = e; is_read = is; is_sound = sound; kind = has_kind; tree = refl; same_lists = refl },
    )

-- ---- what can be built of data: something with this data, whose filters are of its texts
abbrev Can : {X D : Type 0} → (X → D) → (X → Type 0) → D → Type 0
Can {X} shown Built given = (x : X) × (shown x ≡ given) × Built x

-- an option, and a list that a table reads one after another
can_option : {X D : Type 0} (shown : X → D) (Built : X → Type 0) (table : Data → Table) (stands : Data → D)
    → ((d : Data) → table d None → Can shown Built (stands d)) → (found : Option Data) → if_there table found None
    → (o : Option X) × (option_map shown o ≡ option_map stands found) × IfSome o Built
can_option shown Built table stands can None passed = (None, refl, tt)
can_option shown Built table stands can (Some d) passed =
    let (x, same, built) = can d passed in (Some x, ap Some same, built)

can_each : {X D E : Type 0} (shown : X → D) (Built : X → Type 0) (table : List D → E → Table) (stands : E → D)
    → ((earlier : List D) (e : E) → table earlier e None → Can shown Built (stands e)) → (earlier : List D) (es : List E)
    → each table stands earlier es None → (xs : List X) × (map shown xs ≡ map stands es) × AllByRecursion Built xs
can_each shown Built table stands can earlier [] passed = ([], refl, tt)
can_each shown Built table stands can earlier (e ∷ es) passed =
    let (x, same, built) = can earlier e passed.0 in
    let (xs, rest, others) = can_each shown Built table stands can (earlier ++ stands e ∷ []) es passed.1 in
    (x ∷ xs, (λ i. same i ∷ rest i), (built, others))

-- ---- values

dynamic_from : (lists : Lists) (at : Place) (place : List ℕ) (source : Option (List ℕ)) (written : List ℕ)
    → an_expression (judged lists at) place source None → Can dynamic_data (IsDynamicBuilt lists at) (dynamic_of source written)
dynamic_from lists at place None written passed = (dynamic.Fixed written, refl, tt)
dynamic_from lists at place (Some source) written passed =
    let (built, is) = filter_found lists at source passed in (dynamic.Computed built source, refl, is)

dynamic_found : (lists : Lists) (at : Place) (place : List ℕ) (d : Data) → dynamic_table (judged lists) at place d None
    → Can dynamic_data (IsDynamicBuilt lists at) (dynamic_at d)
unfolding dynamic_table
dynamic_found lists at place d passed =
    dynamic_from lists at _ (option_and_then as_str (get (codes "expression") d)) (text (codes "value") d) passed.1.1.1.1

-- ---- rewrites and redirects

uri_found : (lists : Lists) (at : Place) (place : List ℕ) (d : Data) → uri_table (judged lists) at place d None
    → Can uri_data (IsUriBuilt lists at) (uri_at d)
unfolding uri_table
uri_found lists at place d passed =
    let (path, same, built) = can_option dynamic_data (IsDynamicBuilt lists at) (dynamic_table (judged lists) at _) dynamic_at
    (dynamic_found lists at _) (get (codes "path") d) passed.0 in
    let (query, other, built_too) = can_option dynamic_data (IsDynamicBuilt lists at) (dynamic_table (judged lists) at _) dynamic_at
    (dynamic_found lists at _) (get (codes "query") d) passed.1 in (
      record { path = path; query = query },
      (λ i. record { path = same i; query = other i }),
      record { path = built; query = built_too },
    )

operation_found : (lists : Lists) (at : Place) (place : List ℕ) (d : Data) → operation_table (judged lists) at place d None
    → Can operation_data (IsOperationBuilt lists at) (operation_at d)
operation_found lists at place d passed =
    of_names (bytes_eq (text (codes "operation") d) (codes "set")) (bytes_eq (text (codes "operation") d) (codes "add")) refl refl
  where
    -- a name that is none of a removal
    no_removal : (name : List ℕ) → bytes_eq name (codes "remove") ≡ false → bytes_eq (text (codes "operation") d) name ≡ true → is_removal d ≡ false
    no_removal name other is = ap (λ one. bytes_eq one (codes "remove")) ((bytes_eq-Decides (text (codes "operation") d) name).0 is) ∙ other

    value_there : is_removal d ≡ false → Can dynamic_data (IsDynamicBuilt lists at) (dynamic_at d)
    value_there none = dynamic_found lists at place d (subst (λ removal. operand_table removal (judged lists) at place d None) none passed.1)

    of_names : (is_set is_add : Bool) → bytes_eq (text (codes "operation") d) (codes "set") ≡ is_set → bytes_eq (text (codes "operation") d) (codes "add") ≡ is_add
        → Can operation_data (IsOperationBuilt lists at) (if is_set then sets (dynamic_at d) else (if is_add then adds (dynamic_at d) else removes))
    of_names true is_add set add =
        let (v, same, built) = value_there (no_removal (codes "set") refl set) in (operation.Set v, ap sets same, built)
    of_names false true set add =
        let (v, same, built) = value_there (no_removal (codes "add") refl add) in (operation.Add v, ap adds same, built)
    of_names false false set add = (operation.Remove, refl, tt)

header_found : (lists : Lists) (at : Place) (headers : List ℕ) (earlier : List HeaderRewriteData) (entry : List ℕ × Data)
    → header_table (judged lists) at headers earlier entry None → Can header_data (IsHeaderBuilt lists at) (header_at entry)
unfolding header_table
header_found lists at headers earlier entry passed =
    let (done, same, built) = operation_found lists at _ entry.1 passed.1.1 in
    (record { name = entry.0; operation = done }, (λ i. record { name = entry.0; operation = same i }), built)

-- where a member is absent nothing stands under it
absent : (found : Option Data) → is_some found ≡ false → None ≡ found
absent None none = refl
absent (Some d) none = absurd cc

uri_under : (lists : Lists) (at : Place) (place : List ℕ) (found : Option Data) → is_none found ≡ false
    → uri_table (judged lists) at place (unwrap_or found null) None
    → (o : Option UriRewrite) × (option_map uri_data o ≡ option_map uri_at found) × IfSome o (IsUriBuilt lists at)
uri_under lists at place None some passed = absurd cc
uri_under lists at place (Some d) some passed =
    let (uri, same, built) = uri_found lists at place d passed in (Some uri, ap Some same, built)

headers_under : (lists : Lists) (at : Place) (headers : List ℕ) (found : Option Data) → is_none found ≡ false
    → each_header_table (judged lists) at headers (in_order (entries_in (unwrap_or found null))) None
    → (o : Option (List HeaderRewrite)) × (option_map (map header_data) o ≡ option_map headers_at found) × IfSome o (AllByRecursion (IsHeaderBuilt lists at))
headers_under lists at headers None some passed = absurd cc
headers_under lists at headers (Some d) some passed =
    let (all, same, built) = can_each header_data (IsHeaderBuilt lists at) (header_table (judged lists) at headers) header_at
    (header_found lists at headers) [] (in_order (entries_in d)) passed in (Some all, ap Some same, built)

rewrite_found : (lists : Lists) (at : Place) (b : Bool) (place : List ℕ) (d : Data) → parts_table b (judged lists) at place d None
    → Can rewrite_data (IsRewriteBuilt lists at) (rewrite_at d)
rewrite_found lists at true place d passed =
    let (uri, same, built) = uri_under lists at _ (get (codes "uri") d) passed.0.0 passed.1.0 in
    let none = absent (get (codes "headers") d) passed.1.1.1 in (
      record { uri = uri; headers = None },
      (λ i. record { uri = same i; headers = option_map headers_at (none i) }),
      record { uri = built; headers = tt },
    )
rewrite_found lists at false place d passed =
    let (headers, same, built) = headers_under lists at _ (get (codes "headers") d) passed.1.0.0 passed.1.1 in
    let none = absent (get (codes "uri") d) passed.0.1 in (
      record { uri = None; headers = headers },
      (λ i. record { uri = option_map uri_at (none i); headers = same i }),
      record { uri = tt; headers = built },
    )

value_under : (lists : Lists) (at : Place) (place : List ℕ) (found : Option Data) → is_none found ≡ false
    → if_there (dynamic_table (judged lists) at place) found None → Can dynamic_data (IsDynamicBuilt lists at) (dynamic_at (unwrap_or found null))
value_under lists at place None some passed = absurd cc
value_under lists at place (Some d) some passed = dynamic_found lists at place d passed

redirect_found : (lists : Lists) (p : Phase) (place : List ℕ) (d : Data) → redirect_table (judged lists) p place d None
    → Can redirect_data (λ (one : Redirect). IsDynamicBuilt lists (value_place p) one.target_url) (redirect_at d)
unfolding redirect_table target_table target_at
redirect_found lists p place d passed =
    let held = member (codes "from_value") d in
    let (target, same, built) = value_under lists (value_place p) _ (get (codes "target_url") held) passed.1.1.0.0 passed.1.1.0.1 in
    let preserve = value_or as_bool false (codes "preserve_query_string") held in (
      record { status_code = redirect_status_at held; target_url = target; preserve_query_string = preserve },
      (λ i. record { status_code = redirect_status_at held; target_url = same i; preserve_query_string = preserve }),
      built,
    )

-- ---- limits

abbrev source_of : Characteristic → List ℕ
source_of one = one.source

characteristic_found : (lists : Lists) (items : List ℕ) (earlier : List (List ℕ)) (d : Data) → characteristic_table (judged lists) items earlier d None
    → Can source_of (IsCharacteristicBuilt lists) (text_of d)
unfolding characteristic_table
characteristic_found lists items earlier d passed =
    let (built, is) = filter_found lists stand.Characteristic (text_of d) passed.1 in (record { filter = built; source = text_of d }, refl, is)

counting_found : (lists : Lists) (place source : List ℕ) → expression_or_empty (judged lists stand.Count) place source None
    → (o : Option Counting) × (option_map (λ (one : Counting). one.source) o ≡ filled source) × IfSome o (IsCountingBuilt lists)
counting_found lists place [] passed = (None, refl, tt)
counting_found lists place (byte ∷ source) passed =
    let (built, is) = filter_found lists stand.Count (byte ∷ source) passed in
    (Some (record { filter = built; source = byte ∷ source; reply = speaks_of_reply built.tree }), refl, record { filter = is; reply = refl })

-- a number that is read within its range, or else a default that lies there, lies there
abbrev Within : ℕ → ℕ → ℕ → Type 0
Within first last n = (first ≤ n) × (n ≤ last)

module _ (first last default : ℕ) (within : Within first last default) where
  tested_within : (n : ℕ) (low high : Bool) → nat_le first n ≡ low → nat_le n last ≡ high
      → Within first last (unwrap_or (then_some (low && high) n) default)
  tested_within n true true low high = (at_least first n low, at_least n last high)
  tested_within n true false low high = within
  tested_within n false high low other = within

  integer_within : (o : Option ℕ) → Within first last (unwrap_or (option_and_then (λ n. then_some (nat_le first n && nat_le n last) n) o) default)
  integer_within None = within
  integer_within (Some n) = tested_within n (nat_le first n) (nat_le n last) refl refl

  member_within : (found : Option Data) → Within first last (unwrap_or (option_and_then (number_within first last) found) default)
  member_within None = within
  member_within (Some d) = integer_within (option_and_then as_u64 (as_number d))

  number_found : (name : List ℕ) (d : Data) → Within first last (number_or first last default name d)
  number_found name d = member_within (get name d)

whole_seconds : (seconds : ℕ) → milliseconds seconds % 1000 ≡ 0
whole_seconds seconds = ap (λ n. n % 1000) (sym (add-zero (seconds * 1000))) ∙ mod-mul-add seconds 1000 0 (omega arith)

ranges_found : (d : Data) → HasRanges (period_at d) (threshold_at d) (timeout_at d)
ranges_found d =
    let period = number_found 1 seconds_in_a_day 1 (omega arith, omega arith) (codes "period") d in
    let threshold = number_found 1 1000000 1 (omega arith, omega arith) (codes "requests_per_period") d in
    let timeout = number_found 0 seconds_in_a_day 0 (omega arith, omega arith) (codes "mitigation_timeout") d in
    record {
      some_period = omega (arith, period.0);
      period_within = omega (arith, period.1);
      whole_period = whole_seconds (number_or 1 seconds_in_a_day 1 (codes "period") d);
      some_threshold = threshold.0;
      threshold_within = threshold.1;
      timeout_within = omega (arith, timeout.1);
      whole_timeout = whole_seconds (number_or 0 seconds_in_a_day 0 (codes "mitigation_timeout") d);
    }

held_limit_found : (lists : Lists) (place : List ℕ) (d : Data) → held_limit_table (judged lists) place d None
    → Can limit_data (IsLimitBuilt lists) (held_limit_at d)
unfolding held_limit_table held_limit_at
held_limit_found lists place d passed =
    let (all, same, built) = can_each source_of (IsCharacteristicBuilt lists) (characteristic_table (judged lists) _) text_of
    (characteristic_found lists _) [] (elements (codes "characteristics") d) passed.1.0.1.1 in
    let (counting, counted, is) = counting_found lists _ (text (codes "counting_expression") d) passed.1.1.1.1 in (
      record {
        characteristics = all;
        period = period_at d;
        threshold = threshold_at d;
        timeout = timeout_at d;
        counting = counting;
        ranges = ranges_found d;
      },
      (λ i. record {
        characteristics = same i;
        period = period_at d;
        threshold = threshold_at d;
        timeout = timeout_at d;
        counting = counted i;
      }),
      record { characteristics = built; counting = is },
    )

limit_under : (lists : Lists) (place : List ℕ) (found : Option Data) → is_none found ≡ false
    → held_limit_table (judged lists) place (unwrap_or found null) None
    → (o : Option Limit) × (option_map limit_data o ≡ option_map held_limit_at found) × IfSome o (IsLimitBuilt lists)
limit_under lists place None some passed = absurd cc
limit_under lists place (Some d) some passed =
    let (limit, same, built) = held_limit_found lists place d passed in (Some limit, ap Some same, built)

limit_found : (lists : Lists) (limited : Bool) (place : List ℕ) (d : Data) → limit_table_of limited (judged lists) place d None
    → (o : Option Limit) × (option_map limit_data o ≡ limit_at d) × IfSome o (IsLimitBuilt lists)
limit_found lists true place d passed = limit_under lists _ (get (codes "ratelimit") d) passed.0.0 passed.1
limit_found lists false place d passed = (None, ap (option_map held_limit_at) (absent (get (codes "ratelimit") d) passed.1), tt)

-- ---- rules and rulesets

act_found : (lists : Lists) (all : List Data) (p : Phase) (a : Action) (place : List ℕ) (d : Data) → parameters_table (judged lists) all p a place d None
    → Can act_data (IsActOfTexts lists p) (act_of all p a (parameters d))
act_found lists all p action.Block place d passed = (act.Block (block_at p (parameters d)), refl, tt)
act_found lists all p action.ManagedChallenge place d passed = (act.Challenge plain.ManagedChallenge, refl, tt)
act_found lists all p action.JsChallenge place d passed = (act.Challenge plain.JsChallenge, refl, tt)
act_found lists all p action.Challenge place d passed = (act.Challenge plain.Challenge, refl, tt)
act_found lists all p action.Log place d passed = (act.Log, refl, tt)
act_found lists all p action.Skip place d passed = (act.Skip (skips_at (parameters d)), refl, tt)
act_found lists all p action.Execute place d passed =
    (act.Execute (executed_at all (parameters d)) (overrides_at (member (codes "overrides") (parameters d))), refl, tt)
act_found lists all p action.Rewrite place d passed =
    let (rewrite, same, built) = rewrite_found lists (value_place p) (rewrites_uri p) _ (parameters d) passed.1 in
    (act.Rewrite rewrite, ap rewrites same, built)
act_found lists all p action.Redirect place d passed =
    let (redirect, same, built) = redirect_found lists p _ (parameters d) passed.1 in (act.Redirect redirect, ap redirects same, built)

rule_found : (lists : Lists) (all : List Data) (k : RulesetKind) (p : Phase) (rules : List ℕ) (earlier : List RuleData) (d : Data)
    → rule_table (judged lists) all k p rules earlier d None → Can rule_data (IsRuleOfTexts lists p) (rule_at all p d)
unfolding rule_table condition_table deed_table rule_at
rule_found lists all k p rules earlier d passed =
    let (built, is) = filter_found lists (condition_place p) (text (codes "expression") d) passed.1.0.1 in
    let (done, same, of_texts) = act_found lists all p (action_at d) _ d passed.1.1.1.0 in
    let (limit, limited, is_limit) = limit_found lists (is_limited p (action_at d)) _ d passed.1.1.1.1 in (
      record {
        id = text (codes "id") d;
        label = text (codes "ref") d;
        description = text (codes "description") d;
        source = text (codes "expression") d;
        tags = texts (codes "categories") d;
        enabled = value_or as_bool true (codes "enabled") d;
        filter = built;
        act = done;
        limit = limit;
      },
      (λ i. record {
        id = text (codes "id") d;
        label = text (codes "ref") d;
        description = text (codes "description") d;
        source = text (codes "expression") d;
        tags = texts (codes "categories") d;
        enabled = value_or as_bool true (codes "enabled") d;
        act = same i;
        limit = limited i;
      }),
      record { condition = is; act = of_texts; limit = is_limit },
    )

pub ruleset_found : (lists : Lists) (all : List Data) (rulesets : List ℕ) (earlier : List RulesetData) (d : Data)
    → ruleset_table (judged lists) all rulesets earlier d None → Can set_data (IsRulesetOfTexts lists) (ruleset_at all d)
unfolding ruleset_table ruleset_at
ruleset_found lists all rulesets earlier d passed =
    let p = set_phase_at d in
    let (rules, same, built) = can_each rule_data (IsRuleOfTexts lists p) (rule_table (judged lists) all (kind_at d) p _) (rule_at all p)
    (rule_found lists all (kind_at d) p _) [] (rules_of d) passed.1.1.1 in (
      record { id = text (codes "id") d; name = text (codes "name") d; kind = kind_at d; phase = p; rules = rules },
      (λ i. record { id = text (codes "id") d; name = text (codes "name") d; kind = kind_at d; phase = p; rules = same i }),
      built,
    )

-- the rulesets of a document
pub rulesets_found : (lists : Lists) (all : List Data) (rulesets : List ℕ) (ds : List Data)
    → each (ruleset_table (judged lists) all rulesets) (ruleset_at all) [] ds None
    → (sets : List Ruleset) × (map set_data sets ≡ map (ruleset_at all) ds) × AreRulesetsOfTexts lists sets
rulesets_found lists all rulesets ds passed =
    can_each set_data (IsRulesetOfTexts lists) (ruleset_table (judged lists) all rulesets) (ruleset_at all) (ruleset_found lists all rulesets) [] ds passed
