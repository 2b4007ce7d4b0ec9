-- What is refused first of a document, patterns left out, is one thing.
use Rattle.std.proofs.Common.{◌≡◌, ◌≢◌, ◌⊎◌, ℕ, Bool, true, false, List, [], ◌∷◌, length, codes, Option, None, Some, Result, Ok, Err, is_none, refl, sym, ap, ◌∙◌, subst, inl, inr}
use Rattle.serde_json.specs.Data.{Data}
use Rattle.serde_json.specs.Find.{get, as_str, as_bool, as_array, as_object}
use Rattle.edge_base.specs.declared.expression.Expr.{Expr}
use Rattle.edge_fields.specs.declared.kind.Basic.{Basic}
use Rattle.list_store.specs.Listed.{list_kinds_of}
use Rattle.expr_parser.specs.declared.grammar.ParseFault.{ParseFault}
use Rattle.expr_parser.specs.declared.grammar.ParseFault.TheVariants as parsing
use Rattle.expr_parser.specs.Parsed.{IsAnswer, AnswersAreUnique}
use Rattle.override_plan.specs.declared.overrides.Override.{Override}
use Rattle.type_check.specs.declared.fault.Place.{Place}
use Rattle.type_check.specs.declared.fault.Place.TheVariants as stand
use Rattle.type_check.specs.declared.fault.TypeCause.{TypeCause}
use Rattle.type_check.specs.Places.{bad}
use Rattle.ruleset_model.specs.declared.phase.Phase.{Phase}
use Rattle.ruleset_model.specs.declared.ruleset.RulesetKind.{RulesetKind}
use Rattle.ruleset_model.specs.Data.{HeaderRewriteData, RuleData, RulesetData}
use Rattle.ruleset_model.specs.Phases.{condition_place, value_place, rewrites_uri}
use Rattle.config_read.specs.declared.action.Action.{Action}
use Rattle.config_read.specs.declared.action.Action.TheVariants as action
use Rattle.config_read.specs.declared.fault.Cause.{Cause}
use Rattle.config_read.specs.Places.{child, nth}
use Rattle.config_read.specs.Refusals.{Refusal, Table, nothing, IsSettled}
use Rattle.config_read.specs.Members.{text_of, text, elements, if_there, a_text, each_text, typed_texts}
use Rattle.config_read.specs.Judged.{Judgement, parse_cause, type_cause, IsUnread, IsFirstOf, judged_without_patterns, expression, an_expression, expression_or_empty}
use Rattle.config_read.specs.Values.{dynamic_table, typed_dynamic}
use Rattle.config_read.specs.Blocks.{response_table, block_table}
use Rattle.config_read.specs.Skipped.{phase_table, phase_at, phases_table, items_at, skipped_table, skipped_at, each_skipped_table, skip_table}
use Rattle.config_read.specs.Executions.{override_table, entry_table, entry_at, each_entry_table, overrides_table, execute_table}
use Rattle.config_read.specs.Rewrites.{uri_table, operand_table, is_removal, operation_table, header_table, header_at, each_header_table, parts_table, rewrite_table, target_table, redirect_table}
use Rattle.config_read.specs.Limits.{number_table, characteristic, characteristic_table, each_characteristic_table, numbers_table, held_limit_table, is_limited, limit_table_of}
use Rattle.config_read.specs.Parameters.{parameters_table}
use Rattle.config_read.specs.RulesOf.{rule_id_table, head_table, condition_table, action_table, action_at, deed_table, rule_table, rule_at}
use Rattle.config_read.specs.RulesetsOf.{set_head_table, rules_table, ruleset_table, ruleset_at, rulesets_table}
use Rattle.config_read.specs.Reads.{document_table, FirstRefusalIsOne}
use Rattle.config_read.proofs.ListsSettled.{lists_settled}
use Rattle.config_read.proofs.SettledLemmas.{settled_nothing, settled_refuse, settled_then, settled_each}

-- ---- expressions

-- what a text comes to is one thing
abbrev IsOne : (Option Cause → Type 0) → Type 0
IsOne judge = (a b : Option Cause) → judge a → judge b → a ≡ b

-- wherever it stands
abbrev AreOne : Judgement → Type 0
AreOne judge = (at : Place) (text : List ℕ) → IsOne (judge at text)

same_refusal : (q r : Refusal) (place : List ℕ) → q.place ≡ place → r.place ≡ place → q.cause ≡ r.cause → Some q ≡ Some r
same_refusal q r place first other same = λ i. Some (record { place = (first ∙ sym other) i; cause = same i })

same_cause : (a b : Cause) → Some a ≡ Some b → a ≡ b
same_cause a b e = cc

expression_settled : (judge : List ℕ → Option Cause → Type 0) → ((text : List ℕ) → IsOne (judge text)) → (place text : List ℕ) → IsSettled (expression judge place text)
expression_settled judge one place text None None h k = refl
expression_settled judge one place text None (Some r) h k = let same = one text None (Some r.cause) h k.1 in absurd cc
expression_settled judge one place text (Some q) None h k = let same = one text (Some q.cause) None h.1 k in absurd cc
expression_settled judge one place text (Some q) (Some r) h k =
    same_refusal q r place h.0 k.0 (same_cause q.cause r.cause (one text (Some q.cause) (Some r.cause) h.1 k.1))

an_expression_settled : (judge : List ℕ → Option Cause → Type 0) → ((text : List ℕ) → IsOne (judge text)) → (place : List ℕ) (found : Option (List ℕ)) → IsSettled (an_expression judge place found)
an_expression_settled judge one place None = settled_nothing
an_expression_settled judge one place (Some text) = expression_settled judge one place text

or_empty_settled : (judge : List ℕ → Option Cause → Type 0) → ((text : List ℕ) → IsOne (judge text)) → (place text : List ℕ) → IsSettled (expression_or_empty judge place text)
or_empty_settled judge one place [] = settled_nothing
or_empty_settled judge one place (byte ∷ text) = expression_settled judge one place (byte ∷ text)

-- ---- members

if_there_settled : (table : Data → Table) → ((d : Data) → IsSettled (table d)) → (found : Option Data) → IsSettled (if_there table found)
if_there_settled table settled None = settled_nothing
if_there_settled table settled (Some d) = settled d

each_text_settled : (items : List ℕ) (ds : List Data) → IsSettled (each_text items ds)
each_text_settled items ds = settled_each (a_text items) text_of (λ earlier d. settled_refuse _ _ _) [] ds

typed_texts_settled : (place name : List ℕ) (d : Data) → IsSettled (typed_texts place name d)
typed_texts_settled place name d = settled_then _ _ (settled_refuse _ _ _) (each_text_settled (child place name) (elements name d))

-- ---- what needs no judgement

block_settled : (place : List ℕ) (d : Data) → IsSettled (block_table place d)
unfolding block_table response_table
block_settled place d =
    settled_then _ _ (settled_refuse _ _ _)
    (settled_then _ _ (settled_refuse _ _ _) (settled_then _ _ (settled_refuse _ _ _) (settled_refuse _ _ _)))

skipped_settled : (rules : List ℕ) (entry : List ℕ × Data) → IsSettled (skipped_table rules entry)
skipped_settled rules entry = settled_then _ _ (settled_refuse _ _ _) (each_text_settled (child rules entry.0) (items_at entry.1))

skip_settled : (place : List ℕ) (d : Data) → IsSettled (skip_table place d)
unfolding skip_table
skip_settled place d =
    settled_then _ _ (settled_refuse _ _ _)
    (settled_then _ _
    (settled_then _ _ (settled_refuse _ _ _)
    (settled_each (phase_table _) phase_at (λ earlier one. settled_then _ _ (settled_refuse _ _ _) (settled_refuse _ _ _)) [] _))
    (settled_then _ _ (typed_texts_settled place (codes "rulesets") d)
    (settled_then _ _ (settled_refuse _ _ _) (settled_each (λ earlier. skipped_table _) skipped_at (λ earlier entry. skipped_settled _ entry) [] _))))

override_settled : (place : List ℕ) (d : Data) → IsSettled (override_table place d)
unfolding override_table
override_settled place d = settled_then _ _ (settled_refuse _ _ _) (settled_then _ _ (settled_refuse _ _ _) (settled_refuse _ _ _))

entry_settled : (name entries : List ℕ) (earlier : List (List ℕ × Override)) (d : Data) → IsSettled (entry_table name entries earlier d)
unfolding entry_table
entry_settled name entries earlier d =
    settled_then _ _ (settled_refuse _ _ _)
    (settled_then _ _ (settled_then _ _ (settled_refuse _ _ _) (settled_refuse _ _ _)) (override_settled _ d))

entries_settled : (name place : List ℕ) (ds : List Data) → IsSettled (each_entry_table name place ds)
entries_settled name place ds = settled_each (entry_table name place) (entry_at name) (entry_settled name place) [] ds

execute_settled : (all : List Data) (p : Phase) (place : List ℕ) (d : Data) → IsSettled (execute_table all p place d)
unfolding execute_table overrides_table
execute_settled all p place d =
    settled_then _ _
    (settled_then _ _ (settled_then _ _ (settled_refuse _ _ _) (settled_refuse _ _ _)) (settled_then _ _ (settled_refuse _ _ _) (settled_refuse _ _ _)))
    (settled_then _ _ (settled_refuse _ _ _)
    (settled_then _ _ (override_settled _ _)
    (settled_then _ _ (settled_then _ _ (settled_refuse _ _ _) (entries_settled _ _ _)) (settled_then _ _ (settled_refuse _ _ _) (entries_settled _ _ _)))))

number_settled : (first last : ℕ) (place : List ℕ) (d : Data) → IsSettled (number_table first last place d)
number_settled first last place d = settled_then _ _ (settled_refuse _ _ _) (settled_refuse _ _ _)

module _ (judge : Judgement) (one : AreOne judge) where
  dynamic_settled : (at : Place) (place : List ℕ) (d : Data) → IsSettled (dynamic_table judge at place d)
  unfolding dynamic_table
  dynamic_settled at place d =
      settled_then _ _ (settled_refuse _ _ _)
      (settled_then _ _ (settled_refuse _ _ _)
      (settled_then _ _ (settled_refuse _ _ _) (settled_then _ _ (settled_refuse _ _ _) (an_expression_settled (judge at) (one at) _ _))))

  typed_dynamic_settled : (at : Place) (place name : List ℕ) (d : Data) → IsSettled (typed_dynamic judge at place name d)
  typed_dynamic_settled at place name d = if_there_settled (dynamic_table judge at (child place name)) (dynamic_settled at (child place name)) (get name d)

  -- ---- rewrites and redirects

  operand_settled : (removal : Bool) (at : Place) (place : List ℕ) (d : Data) → IsSettled (operand_table removal judge at place d)
  operand_settled true at place d = settled_nothing
  operand_settled false at place d = dynamic_settled at place d

  header_settled : (at : Place) (headers : List ℕ) (earlier : List HeaderRewriteData) (entry : List ℕ × Data) → IsSettled (header_table judge at headers earlier entry)
  unfolding header_table
  header_settled at headers earlier entry =
      settled_then _ _ (settled_refuse _ _ _)
      (settled_then _ _ (settled_then _ _ (settled_refuse _ _ _) (settled_refuse _ _ _))
      (settled_then _ _ (settled_then _ _ (settled_refuse _ _ _) (settled_refuse _ _ _)) (operand_settled (is_removal entry.1) at _ entry.1)))

  uri_settled : (at : Place) (place : List ℕ) (d : Data) → IsSettled (uri_table judge at place d)
  unfolding uri_table
  uri_settled at place d = settled_then _ _ (typed_dynamic_settled at place (codes "path") d) (typed_dynamic_settled at place (codes "query") d)

  parts_settled : (b : Bool) (at : Place) (place : List ℕ) (d : Data) → IsSettled (parts_table b judge at place d)
  parts_settled true at place d =
      settled_then _ _ (settled_then _ _ (settled_refuse _ _ _) (settled_refuse _ _ _))
      (settled_then _ _ (uri_settled at _ _) (settled_then _ _ (settled_refuse _ _ _) (settled_refuse _ _ _)))
  parts_settled false at place d =
      settled_then _ _ (settled_then _ _ (settled_refuse _ _ _) (settled_refuse _ _ _))
      (settled_then _ _ (settled_then _ _ (settled_refuse _ _ _) (settled_refuse _ _ _))
      (settled_each (header_table judge at _) header_at (header_settled at _) [] _))

  target_settled : (at : Place) (place : List ℕ) (d : Data) → IsSettled (target_table judge at place d)
  unfolding target_table
  target_settled at place d =
      settled_then _ _ (settled_refuse _ _ _)
      (settled_then _ _ (settled_then _ _ (settled_refuse _ _ _) (typed_dynamic_settled at place (codes "target_url") d)) (settled_refuse _ _ _))

  redirect_settled : (p : Phase) (place : List ℕ) (d : Data) → IsSettled (redirect_table judge p place d)
  unfolding redirect_table
  redirect_settled p place d = settled_then _ _ (settled_then _ _ (settled_refuse _ _ _) (settled_refuse _ _ _)) (target_settled (value_place p) _ _)

  -- ---- limits

  characteristic_settled : (place text : List ℕ) → IsSettled (characteristic judge place text)
  characteristic_settled place text None None h k = refl
  characteristic_settled place text None (Some r) h k = let same = one stand.Characteristic text None (Some k.1.0) h k.1.1 in absurd cc
  characteristic_settled place text (Some q) None h k = let same = one stand.Characteristic text (Some h.1.0) None h.1.1 k in absurd cc
  characteristic_settled place text (Some q) (Some r) h k = ap (λ (told : Refusal). Some told) (h.0 ∙ sym k.0)

  characteristic_table_settled : (items : List ℕ) (earlier : List (List ℕ)) (d : Data) → IsSettled (characteristic_table judge items earlier d)
  unfolding characteristic_table
  characteristic_table_settled items earlier d = settled_then _ _ (settled_refuse _ _ _) (characteristic_settled (nth items (length earlier)) (text_of d))

  ranged_settled : (first last : ℕ) (place name : List ℕ) (d : Data) → IsSettled (if_there (number_table first last (child place name)) (get name d))
  ranged_settled first last place name d = if_there_settled (number_table first last (child place name)) (number_settled first last (child place name)) (get name d)

  held_limit_settled : (place : List ℕ) (d : Data) → IsSettled (held_limit_table judge place d)
  unfolding held_limit_table numbers_table
  held_limit_settled place d =
      settled_then _ _ (settled_refuse _ _ _)
      (settled_then _ _
      (settled_then _ _ (settled_then _ _ (settled_refuse _ _ _) (settled_refuse _ _ _))
      (settled_then _ _ (settled_refuse _ _ _) (settled_each (characteristic_table judge _) text_of (characteristic_table_settled _) [] _)))
      (settled_then _ _
      (settled_then _ _ (settled_then _ _ (settled_refuse _ _ _) (ranged_settled _ _ place (codes "period") d))
      (settled_then _ _ (settled_then _ _ (settled_refuse _ _ _) (ranged_settled _ _ place (codes "requests_per_period") d))
      (ranged_settled _ _ place (codes "mitigation_timeout") d)))
      (settled_then _ _ (settled_refuse _ _ _) (or_empty_settled (judge stand.Count) (one stand.Count) _ _))))

  limit_settled : (limited : Bool) (place : List ℕ) (d : Data) → IsSettled (limit_table_of limited judge place d)
  limit_settled true place d = settled_then _ _ (settled_then _ _ (settled_refuse _ _ _) (settled_refuse _ _ _)) (held_limit_settled _ _)
  limit_settled false place d = settled_then _ _ (settled_refuse _ _ _) (settled_refuse _ _ _)

  -- ---- rules

  parameters_settled : (all : List Data) (p : Phase) (a : Action) (place : List ℕ) (d : Data) → IsSettled (parameters_table judge all p a place d)
  parameters_settled all p action.Block place d = settled_then _ _ (settled_refuse _ _ _) (block_settled _ _)
  parameters_settled all p action.ManagedChallenge place d = settled_then _ _ (settled_refuse _ _ _) settled_nothing
  parameters_settled all p action.JsChallenge place d = settled_then _ _ (settled_refuse _ _ _) settled_nothing
  parameters_settled all p action.Challenge place d = settled_then _ _ (settled_refuse _ _ _) settled_nothing
  parameters_settled all p action.Log place d = settled_then _ _ (settled_refuse _ _ _) settled_nothing
  parameters_settled all p action.Skip place d = settled_then _ _ (settled_then _ _ (settled_refuse _ _ _) (settled_refuse _ _ _)) (skip_settled _ _)
  parameters_settled all p action.Execute place d = settled_then _ _ (settled_then _ _ (settled_refuse _ _ _) (settled_refuse _ _ _)) (execute_settled all p _ _)
  parameters_settled all p action.Rewrite place d = settled_then _ _ (settled_then _ _ (settled_refuse _ _ _) (settled_refuse _ _ _)) (parts_settled (rewrites_uri p) (value_place p) _ _)
  parameters_settled all p action.Redirect place d = settled_then _ _ (settled_then _ _ (settled_refuse _ _ _) (settled_refuse _ _ _)) (redirect_settled p _ _)

  head_settled : (place : List ℕ) (earlier : List RuleData) (d : Data) → IsSettled (head_table place earlier d)
  unfolding head_table rule_id_table
  head_settled place earlier d =
      settled_then _ _
      (settled_then _ _ (settled_refuse _ _ _) (settled_then _ _ (settled_then _ _ (settled_refuse _ _ _) (settled_refuse _ _ _)) (settled_refuse _ _ _)))
      (settled_then _ _ (settled_refuse _ _ _)
      (settled_then _ _ (settled_refuse _ _ _) (settled_then _ _ (settled_refuse _ _ _) (typed_texts_settled place (codes "categories") d))))

  rule_settled : (all : List Data) (k : RulesetKind) (p : Phase) (rules : List ℕ) (earlier : List RuleData) (d : Data) → IsSettled (rule_table judge all k p rules earlier d)
  unfolding rule_table condition_table deed_table action_table
  rule_settled all k p rules earlier d =
      settled_then _ _ (head_settled _ earlier d)
      (settled_then _ _
      (settled_then _ _ (settled_then _ _ (settled_refuse _ _ _) (settled_refuse _ _ _)) (expression_settled (judge (condition_place p)) (one (condition_place p)) _ _))
      (settled_then _ _
      (settled_then _ _ (settled_then _ _ (settled_refuse _ _ _) (settled_refuse _ _ _))
      (settled_then _ _ (settled_refuse _ _ _) (settled_then _ _ (settled_refuse _ _ _) (settled_refuse _ _ _))))
      (settled_then _ _ (parameters_settled all p (action_at d) _ d) (limit_settled (is_limited p (action_at d)) _ d))))

  -- ---- rulesets

  set_head_settled : (place : List ℕ) (earlier : List RulesetData) (d : Data) → IsSettled (set_head_table place earlier d)
  unfolding set_head_table
  set_head_settled place earlier d =
      settled_then _ _ (settled_refuse _ _ _)
      (settled_then _ _ (settled_then _ _ (settled_refuse _ _ _) (settled_refuse _ _ _))
      (settled_then _ _ (settled_refuse _ _ _)
      (settled_then _ _ (settled_refuse _ _ _)
      (settled_then _ _ (settled_then _ _ (settled_then _ _ (settled_refuse _ _ _) (settled_refuse _ _ _)) (settled_refuse _ _ _))
      (settled_then _ _ (settled_then _ _ (settled_then _ _ (settled_refuse _ _ _) (settled_refuse _ _ _)) (settled_refuse _ _ _)) (settled_refuse _ _ _))))))

  ruleset_settled : (all : List Data) (rulesets : List ℕ) (earlier : List RulesetData) (d : Data) → IsSettled (ruleset_table judge all rulesets earlier d)
  unfolding ruleset_table
  ruleset_settled all rulesets earlier d =
      settled_then _ _ (set_head_settled _ earlier d)
      (settled_then _ _ (settled_refuse _ _ _)
      (settled_then _ _ (settled_refuse _ _ _) (settled_each (rule_table judge all _ _ _) (rule_at all _) (rule_settled all _ _ _) [] _)))

  rulesets_settled : (d : Data) → IsSettled (rulesets_table judge d)
  unfolding rulesets_table
  rulesets_settled d =
      settled_then _ _ (settled_refuse _ _ _)
      (settled_then _ _ (settled_refuse _ _ _) (settled_each (ruleset_table judge _ _) (ruleset_at _) (ruleset_settled _ _) [] _))

-- ---- a document

document_settled : (judge : List (List ℕ × Basic) → Judgement) → ((lists : List (List ℕ × Basic)) → AreOne (judge lists)) → (d : Data) → IsSettled (document_table judge d)
unfolding document_table
document_settled judge one d =
    settled_then _ _ (settled_refuse _ _ _)
    (settled_then _ _ (settled_refuse _ _ _) (settled_then _ _ (lists_settled d) (rulesets_settled (judge _) (one _) d)))

-- ---- texts, patterns left out

abbrev taken_as : Expr → Result Expr ParseFault
taken_as e = Ok e

abbrev refused_for : ParseFault → Result Expr ParseFault
refused_for f = Err f

not_memory : (e : Expr) → taken_as e ≢ refused_for parsing.Memory
not_memory e same = cc

told_fault : (f : ParseFault) (c : Cause) → parse_cause f ≡ Some c → refused_for f ≢ refused_for parsing.Memory
told_fault parsing.TooLong c e same = cc
told_fault (parsing.Lex at) c e same = cc
told_fault (parsing.Syntax at) c e same = cc
told_fault parsing.TooDeep c e same = cc
told_fault parsing.Memory c e same = cc

first_one : (found : List (ℕ × TypeCause)) (a b : Cause) → IsFirstOf found a → IsFirstOf found b → a ≡ b
first_one [] a b h k = absurd h
first_one (one ∷ rest) a b h k = h ∙ sym k

none_first : (found : List (ℕ × TypeCause)) (c : Cause) → found ≡ [] → IsFirstOf found c → ⊥
none_first [] c e h = h
none_first (one ∷ rest) c e h = absurd cc

same_expr : (e f : Expr) → taken_as e ≡ taken_as f → e ≡ f
same_expr e f same = cc

same_fault : (e f : ParseFault) → refused_for e ≡ refused_for f → e ≡ f
same_fault e f same = cc

module _ (unique : AnswersAreUnique) (lists : List (List ℕ × Basic)) where
  read_once : (text : List ℕ) (e f : Expr) → IsAnswer text (Ok e) → IsAnswer text (Ok f) → e ≡ f
  read_once text e f h k = same_expr e f (unique text (Ok e) (Ok f) h k (not_memory e) (not_memory f))

  never_read : (text : List ℕ) (e : Expr) (c : Cause) → IsAnswer text (Ok e) → IsUnread text c → ⊥
  never_read text e c h k = let same = unique text (Ok e) (Err k.0) h k.1 (not_memory e) (told_fault k.0 c k.2) in absurd cc

  unread_once : (text : List ℕ) (a b : Cause) → IsUnread text a → IsUnread text b → a ≡ b
  unread_once text a b h k =
      let same = same_fault h.0 k.0 (unique text (Err h.0) (Err k.0) h.1 k.1 (told_fault h.0 a h.2) (told_fault k.0 b k.2)) in
      same_cause a b (sym h.2 ∙ ap parse_cause same ∙ k.2)

  refused_never : (at : Place) (text : List ℕ) (c : Cause) → judged_without_patterns lists at text None → judged_without_patterns lists at text (Some c) → ⊥
  refused_never at text c h (inl k) = never_read text h.0 c h.1 k
  refused_never at text c h (inr k) =
      none_first (bad lists at k.0) c (ap (λ (e : Expr). bad lists at e) (read_once text k.0 h.0 k.1 h.1) ∙ h.2) k.2

  judged_once : (at : Place) (text : List ℕ) → IsOne (judged_without_patterns lists at text)
  judged_once at text None None h k = refl
  judged_once at text None (Some c) h k = absurd (refused_never at text c h k)
  judged_once at text (Some c) None h k = absurd (refused_never at text c k h)
  judged_once at text (Some a) (Some b) (inl h) (inl k) = ap (λ (c : Cause). Some c) (unread_once text a b h k)
  judged_once at text (Some a) (Some b) (inl h) (inr k) = absurd (never_read text k.0 a k.1 h)
  judged_once at text (Some a) (Some b) (inr h) (inl k) = absurd (never_read text h.0 b h.1 k)
  judged_once at text (Some a) (Some b) (inr h) (inr k) =
      ap (λ (c : Cause). Some c) (first_one (bad lists at k.0) a b
      (subst (λ (e : Expr). IsFirstOf (bad lists at e) a) (read_once text h.0 k.0 h.1 k.1) h.2) k.2)

pub first_refusal_one : AnswersAreUnique → FirstRefusalIsOne
first_refusal_one unique = λ d. document_settled judged_without_patterns (judged_once unique) d
