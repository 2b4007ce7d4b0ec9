-- A configuration whose filters are built of their texts is one with its data.
use native.Mathlib.Nat.{ℕ_set}
use mathlib.Core.HLevel.{is_prop→PathP}
use Rattle.std.proofs.Math.Bridge.{le_prop}
use Rattle.std.proofs.Common.{◌≡◌, ℕ, Bool, List, [], ◌∷◌, map, Option, Some, None, Ok, Err, IfSome, option_map, sym, ap, subst, ◌∙◌, refl}
use Rattle.std.specs.List.{AllByRecursion}
use Rattle.std.proofs.lemmas.Option.{same_Some}
use Rattle.edge_base.specs.declared.expression.Expr.{Expr}
use Rattle.list_store.specs.declared.part.ListPart.{ListPart}
use Rattle.list_store.specs.Listed.{list_kinds_of}
use Rattle.type_check.specs.declared.fault.Place.{Place}
use Rattle.type_check.specs.declared.fault.Place.TheVariants as place
use Rattle.type_check.specs.Places.{kind_at, tree_at}
use Rattle.expr_parser.specs.Parsed.{IsAnswer, AnswersAreUnique}
use Rattle.ruleset_model.specs.ConfigParts.{ConfigParts}
use Rattle.ruleset_model.specs.FilterParts.{FilterParts}
use Rattle.ruleset_model.specs.Ranges.{HasRanges}
use Rattle.ruleset_model.specs.Built.{speaks_of_reply}
use Rattle.ruleset_model.specs.Phases.{condition_place, value_place}
use Rattle.config_read.specs.Answered.{IsActOfTexts, IsRuleOfTexts, IsRulesetOfTexts, AreRulesetsOfTexts, IsBuiltOfTexts}
use Rattle.config_read.specs.Filters.{Lists, IsFilterOf, IsCountingBuilt, IsCharacteristicBuilt, IsLimitBuilt, IsDynamicBuilt, IsOperationBuilt, IsHeaderBuilt, IsUriBuilt, IsRewriteBuilt}
use Rattle.ruleset_model.specs.Data.{DynamicData, fixed, computed, OperationData, sets, adds, removes, ActData, dynamic_data, uri_data, operation_data, header_data, rewrite_data, redirect_data, act_data, limit_data, rule_data, set_data, config_data}
use Rattle.ruleset_model.specs.Data.{UriRewriteData, HeaderRewriteData, RewriteData, RedirectData, LimitData, RuleData, RulesetData, ConfigData}
use Rattle.ruleset_model.specs.declared.act.Act.{Act}
use Rattle.ruleset_model.specs.declared.act.Act.TheVariants as act
use Rattle.ruleset_model.specs.declared.act.Redirect.{Redirect}
use Rattle.ruleset_model.specs.declared.dynamic.Dynamic.{Dynamic}
use Rattle.ruleset_model.specs.declared.dynamic.Dynamic.TheVariants as dynamic
use Rattle.ruleset_model.specs.declared.limit.Characteristic.{Characteristic}
use Rattle.ruleset_model.specs.declared.limit.Counting.{Counting}
use Rattle.ruleset_model.specs.declared.limit.Limit.{Limit}
use Rattle.ruleset_model.specs.declared.phase.Phase.{Phase}
use Rattle.ruleset_model.specs.declared.rewrite.HeaderRewrite.{HeaderRewrite}
use Rattle.ruleset_model.specs.declared.rewrite.Operation.{Operation}
use Rattle.ruleset_model.specs.declared.rewrite.Operation.TheVariants as operation
use Rattle.ruleset_model.specs.declared.rewrite.Rewrite.{Rewrite}
use Rattle.ruleset_model.specs.declared.rewrite.UriRewrite.{UriRewrite}
use Rattle.ruleset_model.specs.declared.ruleset.Rule.{Rule}
use Rattle.ruleset_model.specs.declared.ruleset.Ruleset.{Ruleset}
use Rattle.ruleset_model.specs.declared.ruleset.RulesetKind.{RulesetKind}

-- ---- options and lists of such as are one with their data

one_option : {X D : Type 0} (shown : X → D) (A B : X → Type 0) (same : (x y : X) → A x → B y → shown x ≡ shown y → x ≡ y)
    (o p : Option X) → IfSome o A → IfSome p B → option_map shown o ≡ option_map shown p → o ≡ p
one_option shown A B same None None a b e = refl
one_option shown A B same None (Some y) a b e = absurd cc
one_option shown A B same (Some x) None a b e = absurd cc
one_option shown A B same (Some x) (Some y) a b e = ap Some (same x y a b (same_Some (shown x) (shown y) e))

one_list : {X D : Type 0} (shown : X → D) (A B : X → Type 0) (same : (x y : X) → A x → B y → shown x ≡ shown y → x ≡ y)
    (xs ys : List X) → AllByRecursion A xs → AllByRecursion B ys → map shown xs ≡ map shown ys → xs ≡ ys
one_list shown A B same [] [] a b e = refl
one_list shown A B same [] (y ∷ ys) a b e = absurd cc
one_list shown A B same (x ∷ xs) [] a b e = absurd cc
one_list shown A B same (x ∷ xs) (y ∷ ys) a b e =
    let heads : shown x ≡ shown y = cc in
    let tails : map shown xs ≡ map shown ys = cc in
    let first : x ≡ y = same x y a.0 b.0 heads in
    let rest : xs ≡ ys = one_list shown A B same xs ys a.1 b.1 tails in
    λ i. first i ∷ rest i

-- ---- what is built of a text

read_once : AnswersAreUnique → (text : List ℕ) (a b : Expr) → IsAnswer text (Ok a) → IsAnswer text (Ok b) → a ≡ b
read_once unique text a b p q = let same = unique text (Ok a) (Ok b) p q (λ e. cc) (λ e. cc) in cc

built_once : AnswersAreUnique → (lists : Lists) (at : Place) (text : List ℕ) (a b : FilterParts)
    → IsFilterOf lists at text a → IsFilterOf lists at text b → a ≡ b
built_once unique lists at text a b p q =
    let same : p.expression ≡ q.expression = read_once unique text p.expression q.expression p.is_read q.is_read in
    let tree : a.tree ≡ b.tree = p.tree ∙ ap (tree_at at) same ∙ sym q.tree in
    let kind : a.kind ≡ b.kind = same_Some a.kind b.kind (sym p.kind ∙ ap (kind_at lists at) same ∙ q.kind) in
    let listed : a.lists ≡ b.lists = p.same_lists ∙ sym q.same_lists in
    λ i. record { tree = tree i; kind = kind i; lists = listed i }

-- the same of two texts that are equal
built_of_same : AnswersAreUnique → (lists : Lists) (at : Place) (text other : List ℕ) (a b : FilterParts)
    → IsFilterOf lists at text a → IsFilterOf lists at other b → text ≡ other → a ≡ b
built_of_same unique lists at text other a b p q same =
    built_once unique lists at text a b p (subst (λ t. IsFilterOf lists at t b) (sym same) q)

-- ---- values, rewrites and redirects

one_dynamic : AnswersAreUnique → (lists : Lists) (at : Place) (a b : Dynamic)
    → IsDynamicBuilt lists at a → IsDynamicBuilt lists at b → dynamic_data a ≡ dynamic_data b → a ≡ b
one_dynamic unique lists at (dynamic.Fixed text) (dynamic.Fixed other) p q e =
    let same : text ≡ other = cc in ap dynamic.Fixed same
one_dynamic unique lists at (dynamic.Fixed text) (dynamic.Computed built source) p q e = absurd cc
one_dynamic unique lists at (dynamic.Computed built source) (dynamic.Fixed text) p q e = absurd cc
one_dynamic unique lists at (dynamic.Computed built source) (dynamic.Computed built' source') p q e =
    let same : source ≡ source' = cc in
    let filter : built ≡ built' = built_of_same unique lists at source source' built built' p q same in
    λ i. dynamic.Computed (filter i) (same i)

one_operation : AnswersAreUnique → (lists : Lists) (at : Place) (a b : Operation)
    → IsOperationBuilt lists at a → IsOperationBuilt lists at b → operation_data a ≡ operation_data b → a ≡ b
one_operation unique lists at (operation.Set v) (operation.Set w) p q e =
    let same : dynamic_data v ≡ dynamic_data w = cc in ap operation.Set (one_dynamic unique lists at v w p q same)
one_operation unique lists at (operation.Set v) (operation.Add w) p q e = absurd cc
one_operation unique lists at (operation.Set v) operation.Remove p q e = absurd cc
one_operation unique lists at (operation.Add v) (operation.Set w) p q e = absurd cc
one_operation unique lists at (operation.Add v) (operation.Add w) p q e =
    let same : dynamic_data v ≡ dynamic_data w = cc in ap operation.Add (one_dynamic unique lists at v w p q same)
one_operation unique lists at (operation.Add v) operation.Remove p q e = absurd cc
one_operation unique lists at operation.Remove (operation.Set w) p q e = absurd cc
one_operation unique lists at operation.Remove (operation.Add w) p q e = absurd cc
one_operation unique lists at operation.Remove operation.Remove p q e = refl

one_uri : AnswersAreUnique → (lists : Lists) (at : Place) (a b : UriRewrite)
    → IsUriBuilt lists at a → IsUriBuilt lists at b → uri_data a ≡ uri_data b → a ≡ b
one_uri unique lists at a b p q e =
    let Valid : Dynamic → Type 0 = IsDynamicBuilt lists at in
    let path : a.path ≡ b.path = one_option dynamic_data Valid Valid (one_dynamic unique lists at) a.path b.path p.path q.path
    (ap (λ (d : UriRewriteData). d.path) e) in
    let query : a.query ≡ b.query = one_option dynamic_data Valid Valid (one_dynamic unique lists at) a.query b.query p.query q.query
    (ap (λ (d : UriRewriteData). d.query) e) in
    λ i. record { path = path i; query = query i }

one_header : AnswersAreUnique → (lists : Lists) (at : Place) (a b : HeaderRewrite)
    → IsOperationBuilt lists at a.operation → IsOperationBuilt lists at b.operation → header_data a ≡ header_data b → a ≡ b
one_header unique lists at a b p q e =
    let name : a.name ≡ b.name = ap (λ (d : HeaderRewriteData). d.name) e in
    let operation : a.operation ≡ b.operation = one_operation unique lists at a.operation b.operation p q
    (ap (λ (d : HeaderRewriteData). d.operation) e) in
    λ i. record { name = name i; operation = operation i }

one_headers : AnswersAreUnique → (lists : Lists) (at : Place) (a b : List HeaderRewrite)
    → AllByRecursion (IsHeaderBuilt lists at) a → AllByRecursion (IsHeaderBuilt lists at) b → map header_data a ≡ map header_data b → a ≡ b
one_headers unique lists at a b p q e =
    let Valid : HeaderRewrite → Type 0 = λ header. IsOperationBuilt lists at header.operation in
    one_list header_data Valid Valid (one_header unique lists at) a b p q e

one_rewrite : AnswersAreUnique → (lists : Lists) (at : Place) (a b : Rewrite)
    → IsRewriteBuilt lists at a → IsRewriteBuilt lists at b → rewrite_data a ≡ rewrite_data b → a ≡ b
one_rewrite unique lists at a b p q e =
    let uri : a.uri ≡ b.uri = one_option uri_data (IsUriBuilt lists at) (IsUriBuilt lists at) (one_uri unique lists at) a.uri b.uri
    p.uri q.uri (ap (λ (d : RewriteData). d.uri) e) in
    let headers : a.headers ≡ b.headers = one_option (map header_data) (AllByRecursion (IsHeaderBuilt lists at)) (AllByRecursion (IsHeaderBuilt lists at))
    (one_headers unique lists at) a.headers b.headers p.headers q.headers (ap (λ (d : RewriteData). d.headers) e) in
    λ i. record { uri = uri i; headers = headers i }

one_redirect : AnswersAreUnique → (lists : Lists) (at : Place) (a b : Redirect)
    → IsDynamicBuilt lists at a.target_url → IsDynamicBuilt lists at b.target_url → redirect_data a ≡ redirect_data b → a ≡ b
one_redirect unique lists at a b p q e =
    let status : a.status_code ≡ b.status_code = ap (λ (d : RedirectData). d.status_code) e in
    let target : a.target_url ≡ b.target_url = one_dynamic unique lists at a.target_url b.target_url p q
    (ap (λ (d : RedirectData). d.target_url) e) in
    let preserve : a.preserve_query_string ≡ b.preserve_query_string = ap (λ (d : RedirectData). d.preserve_query_string) e in
    λ i. record { status_code = status i; target_url = target i; preserve_query_string = preserve i }

-- ---- limits

ranges_once : (period threshold timeout : ℕ) (a b : HasRanges period threshold timeout) → a ≡ b
ranges_once period threshold timeout a b = λ i. record {
  some_period = le_prop a.some_period b.some_period i;
  period_within = le_prop a.period_within b.period_within i;
  whole_period = ℕ_set _ _ a.whole_period b.whole_period i;
  some_threshold = le_prop a.some_threshold b.some_threshold i;
  threshold_within = le_prop a.threshold_within b.threshold_within i;
  timeout_within = le_prop a.timeout_within b.timeout_within i;
  whole_timeout = ℕ_set _ _ a.whole_timeout b.whole_timeout i;
}

one_characteristic : AnswersAreUnique → (lists : Lists) (a b : Characteristic)
    → IsFilterOf lists place.Characteristic a.source a.filter → IsFilterOf lists place.Characteristic b.source b.filter → a.source ≡ b.source → a ≡ b
one_characteristic unique lists a b p q same =
    let filter : a.filter ≡ b.filter = built_of_same unique lists place.Characteristic a.source b.source a.filter b.filter p q same in
    λ i. record { filter = filter i; source = same i }

one_counting : AnswersAreUnique → (lists : Lists) (a b : Counting)
    → IsCountingBuilt lists a → IsCountingBuilt lists b → a.source ≡ b.source → a ≡ b
one_counting unique lists a b p q same =
    let filter : a.filter ≡ b.filter = built_of_same unique lists place.Count a.source b.source a.filter b.filter p.filter q.filter same in
    let reply : a.reply ≡ b.reply = p.reply ∙ ap (λ (f : FilterParts). speaks_of_reply f.tree) filter ∙ sym q.reply in
    λ i. record { filter = filter i; source = same i; reply = reply i }

one_limit : AnswersAreUnique → (lists : Lists) (a b : Limit)
    → IsLimitBuilt lists a → IsLimitBuilt lists b → limit_data a ≡ limit_data b → a ≡ b
one_limit unique lists a b p q e =
    let Built : Characteristic → Type 0 = λ one. IsFilterOf lists place.Characteristic one.source one.filter in
    let characteristics : a.characteristics ≡ b.characteristics = one_list (λ (one : Characteristic). one.source) Built Built
    (one_characteristic unique lists) a.characteristics b.characteristics p.characteristics q.characteristics
    (ap (λ (d : LimitData). d.characteristics) e) in
    let period : a.period ≡ b.period = ap (λ (d : LimitData). d.period) e in
    let threshold : a.threshold ≡ b.threshold = ap (λ (d : LimitData). d.threshold) e in
    let timeout : a.timeout ≡ b.timeout = ap (λ (d : LimitData). d.timeout) e in
    let counting : a.counting ≡ b.counting = one_option (λ (one : Counting). one.source) (IsCountingBuilt lists) (IsCountingBuilt lists)
    (one_counting unique lists) a.counting b.counting p.counting q.counting (ap (λ (d : LimitData). d.counting) e) in
    let ranges = is_prop→PathP (λ i. HasRanges (period i) (threshold i) (timeout i))
    (λ i. ranges_once (period i) (threshold i) (timeout i)) a.ranges b.ranges in
    λ i. record { characteristics = characteristics i; period = period i; threshold = threshold i; timeout = timeout i; counting = counting i; ranges = ranges i }

-- ---- actions, rules, rulesets

one_act : AnswersAreUnique → (lists : Lists) (phase : Phase) (a b : Act)
    → IsActOfTexts lists phase a → IsActOfTexts lists phase b → act_data a ≡ act_data b → a ≡ b
one_act unique lists phase (act.Block r) (act.Block r') p q e = let same : r ≡ r' = cc in ap act.Block same
one_act unique lists phase (act.Challenge c) (act.Challenge c') p q e = let same : c ≡ c' = cc in ap act.Challenge same
one_act unique lists phase act.Log act.Log p q e = refl
one_act unique lists phase (act.Skip s) (act.Skip s') p q e = let same : s ≡ s' = cc in ap act.Skip same
one_act unique lists phase (act.Execute n o) (act.Execute n' o') p q e =
    let number : n ≡ n' = cc in
    let overrides : o ≡ o' = cc in
    λ i. act.Execute (number i) (overrides i)
one_act unique lists phase (act.Rewrite r) (act.Rewrite r') p q e =
    let same : rewrite_data r ≡ rewrite_data r' = cc in ap act.Rewrite (one_rewrite unique lists (value_place phase) r r' p q same)
one_act unique lists phase (act.Redirect r) (act.Redirect r') p q e =
    let same : redirect_data r ≡ redirect_data r' = cc in ap act.Redirect (one_redirect unique lists (value_place phase) r r' p q same)
one_act unique lists phase a b p q e = absurd cc

one_rule : AnswersAreUnique → (lists : Lists) (phase : Phase)
    (a b : Rule) → IsRuleOfTexts lists phase a → IsRuleOfTexts lists phase b
    → rule_data a ≡ rule_data b → a ≡ b
one_rule unique lists phase a b p q e =
    let source : a.source ≡ b.source = ap (λ (d : RuleData). d.source) e in
    let filter : a.filter ≡ b.filter = built_of_same unique lists (condition_place phase) a.source b.source a.filter b.filter p.condition q.condition source in
    let does : a.act ≡ b.act = one_act unique lists phase a.act b.act p.act q.act (ap (λ (d : RuleData). d.act) e) in
    let limit : a.limit ≡ b.limit = one_option limit_data (IsLimitBuilt lists) (IsLimitBuilt lists) (one_limit unique lists) a.limit b.limit
    p.limit q.limit (ap (λ (d : RuleData). d.limit) e) in
    let id : a.id ≡ b.id = ap (λ (d : RuleData). d.id) e in
    let label : a.label ≡ b.label = ap (λ (d : RuleData). d.label) e in
    let description : a.description ≡ b.description = ap (λ (d : RuleData). d.description) e in
    let tags : a.tags ≡ b.tags = ap (λ (d : RuleData). d.tags) e in
    let enabled : a.enabled ≡ b.enabled = ap (λ (d : RuleData). d.enabled) e in
    λ i. record {
      id = id i;
      label = label i;
      description = description i;
      source = source i;
      tags = tags i;
      enabled = enabled i;
      filter = filter i;
      act = does i;
      limit = limit i;
    }

one_ruleset : AnswersAreUnique → (lists : Lists) (a b : Ruleset) → IsRulesetOfTexts lists a → IsRulesetOfTexts lists b
    → set_data a ≡ set_data b → a ≡ b
one_ruleset unique lists a b p q e =
    let id : a.id ≡ b.id = ap (λ (d : RulesetData). d.id) e in
    let name : a.name ≡ b.name = ap (λ (d : RulesetData). d.name) e in
    let kind : a.kind ≡ b.kind = ap (λ (d : RulesetData). d.kind) e in
    let phase : a.phase ≡ b.phase = ap (λ (d : RulesetData). d.phase) e in
    let at_phase : AllByRecursion (IsRuleOfTexts lists a.phase) b.rules =
    subst (λ (at : Phase). AllByRecursion (IsRuleOfTexts lists at) b.rules) (sym phase) q in
    let rules : a.rules ≡ b.rules = one_list rule_data (IsRuleOfTexts lists a.phase) (IsRuleOfTexts lists a.phase) (one_rule unique lists a.phase)
    a.rules b.rules p at_phase (ap (λ (d : RulesetData). d.rules) e) in
    λ i. record { id = id i; name = name i; kind = kind i; phase = phase i; rules = rules i }

-- configurations that are built of their texts and have the same data are the same
pub one_built : AnswersAreUnique → (a b : ConfigParts) → IsBuiltOfTexts a → IsBuiltOfTexts b → config_data a ≡ config_data b → a ≡ b
one_built unique a b p q e =
    let lists : a.lists ≡ b.lists = ap (λ (d : ConfigData). d.lists) e in
    let under : AreRulesetsOfTexts (list_kinds_of a.lists) b.rulesets =
    subst (λ (of : List ListPart). AreRulesetsOfTexts (list_kinds_of of) b.rulesets) (sym lists) q in
    let kinds : Lists = list_kinds_of a.lists in
    let rulesets : a.rulesets ≡ b.rulesets = one_list set_data (IsRulesetOfTexts kinds) (IsRulesetOfTexts kinds) (one_ruleset unique kinds)
    a.rulesets b.rulesets p under (ap (λ (d : ConfigData). d.rulesets) e) in
    λ i. record { lists = lists i; rulesets = rulesets i }
