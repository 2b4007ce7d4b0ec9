-- The reading of a document comes to something: it is taken, or something of it is refused first.
use Rattle.std.proofs.Common.{◌≡◌, ◌≢◌, ◌⊎◌, ℕ, Bool, true, false, List, [], ◌∷◌, length, codes, Option, None, Some, Result, Ok, Err, is_none, refl, sym, ap, ◌∙◌, subst, inl, inr}
use Rattle.serde_json.specs.Data.{Data}
use Rattle.serde_json.specs.Find.{get, as_str, as_bool, as_array, as_object}
use Rattle.edge_base.specs.declared.expression.Expr.{Expr}
use Rattle.edge_fields.specs.declared.kind.Basic.{Basic}
use Rattle.list_store.specs.Listed.{list_kinds_of}
use Rattle.expr_parser.specs.declared.grammar.ParseFault.{ParseFault}
use Rattle.expr_parser.specs.declared.grammar.ParseFault.TheVariants as parsing
use Rattle.expr_parser.specs.Parsed.{IsAnswer, HasAnswer}
use Rattle.expr_parser.proofs.EachAnswered as parser
use Rattle.override_plan.specs.declared.overrides.Override.{Override}
use Rattle.type_check.specs.declared.fault.Place.{Place}
use Rattle.type_check.specs.declared.fault.Place.TheVariants as stand
use Rattle.type_check.specs.declared.fault.Fault.{Fault}
use Rattle.type_check.specs.Checking.{IsAnswer as IsChecked}
use Rattle.type_check.specs.Places.{findings_of}
use Rattle.ruleset_model.specs.declared.phase.Phase.{Phase}
use Rattle.ruleset_model.specs.declared.ruleset.RulesetKind.{RulesetKind}
use Rattle.ruleset_model.specs.Data.{HeaderRewriteData, RuleData, RulesetData}
use Rattle.ruleset_model.specs.Phases.{condition_place, value_place, rewrites_uri}
use Rattle.config_read.specs.declared.action.Action.{Action}
use Rattle.config_read.specs.declared.action.Action.TheVariants as action
use Rattle.config_read.specs.declared.fault.Cause.{Cause}
use Rattle.config_read.specs.declared.fault.Cause.TheVariants as cause
use Rattle.config_read.specs.Places.{child, nth}
use Rattle.config_read.specs.Refusals.{Refusal, Table, nothing}
use Rattle.config_read.specs.Answered.{IsMet}
use Rattle.config_read.specs.Members.{text_of, text, elements, if_there, a_text, each_text, typed_texts}
use Rattle.config_read.specs.Judged.{Judgement, parse_cause, type_cause, judged, expression, an_expression, expression_or_empty}
use Rattle.config_read.specs.Values.{dynamic_table, typed_dynamic}
use Rattle.config_read.specs.Blocks.{response_table, block_table}
use Rattle.config_read.specs.Skipped.{phase_table, phase_at, phases_table, items_at, skipped_table, skipped_at, each_skipped_table, skip_table}
use Rattle.config_read.specs.Executions.{override_table, entry_table, entry_at, each_entry_table, overrides_table, execute_table}
use Rattle.config_read.specs.Rewrites.{uri_table, operand_table, is_removal, operation_table, header_table, header_at, each_header_table, parts_table, rewrite_table, target_table, redirect_table}
use Rattle.config_read.specs.Limits.{number_table, characteristic, characteristic_table, each_characteristic_table, numbers_table, held_limit_table, is_limited, limit_table_of}
use Rattle.config_read.specs.Parameters.{parameters_table}
use Rattle.config_read.specs.RulesOf.{rule_id_table, head_table, condition_table, action_table, action_at, deed_table, rule_table, rule_at}
use Rattle.config_read.specs.RulesetsOf.{set_head_table, rules_table, ruleset_table, ruleset_at, rulesets_table}
use Rattle.config_read.specs.Reads.{document_table}
use Rattle.config_read.proofs.CheckFound.{answer_found}
use Rattle.config_read.proofs.ListsMet.{lists_met}
use Rattle.config_read.proofs.MetLemmas.{met_nothing, met_refuse, met_then, met_each}

-- ---- expressions

-- a text comes to something
abbrev IsFound : (Option Cause → Type 0) → Type 0
IsFound judge = judge None ⊎ ((c : Cause) × judge (Some c))

-- wherever it stands
abbrev AreFound : Judgement → Type 0
AreFound judge = (at : Place) (text : List ℕ) → IsFound (judge at text)

expression_met : (judge : List ℕ → Option Cause → Type 0) → ((text : List ℕ) → IsFound (judge text)) → (place text : List ℕ) → IsMet (expression judge place text)
expression_met judge found place text = of_found (found text) where
  of_found : IsFound (judge text) → IsMet (expression judge place text)
  of_found (inl taken) = record { found = inl taken }
  of_found (inr (c, refused)) = record { found = inr (record { place = place; cause = c }, (refl, refused)) }

an_expression_met : (judge : List ℕ → Option Cause → Type 0) → ((text : List ℕ) → IsFound (judge text)) → (place : List ℕ) (found : Option (List ℕ)) → IsMet (an_expression judge place found)
an_expression_met judge one place None = met_nothing
an_expression_met judge one place (Some text) = expression_met judge one place text

or_empty_met : (judge : List ℕ → Option Cause → Type 0) → ((text : List ℕ) → IsFound (judge text)) → (place text : List ℕ) → IsMet (expression_or_empty judge place text)
or_empty_met judge one place [] = met_nothing
or_empty_met judge one place (byte ∷ text) = expression_met judge one place (byte ∷ text)

-- ---- members

if_there_met : (table : Data → Table) → ((d : Data) → IsMet (table d)) → (found : Option Data) → IsMet (if_there table found)
if_there_met table met None = met_nothing
if_there_met table met (Some d) = met d

each_text_met : (items : List ℕ) (ds : List Data) → IsMet (each_text items ds)
each_text_met items ds = met_each (a_text items) text_of (λ earlier d. met_refuse _ _ _) [] ds

typed_texts_met : (place name : List ℕ) (d : Data) → IsMet (typed_texts place name d)
typed_texts_met place name d = met_then _ _ (met_refuse _ _ _) (each_text_met (child place name) (elements name d))

-- ---- what needs no judgement

block_met : (place : List ℕ) (d : Data) → IsMet (block_table place d)
unfolding block_table response_table
block_met place d =
    met_then _ _ (met_refuse _ _ _)
    (met_then _ _ (met_refuse _ _ _) (met_then _ _ (met_refuse _ _ _) (met_refuse _ _ _)))

skipped_met : (rules : List ℕ) (entry : List ℕ × Data) → IsMet (skipped_table rules entry)
skipped_met rules entry = met_then _ _ (met_refuse _ _ _) (each_text_met (child rules entry.0) (items_at entry.1))

skip_met : (place : List ℕ) (d : Data) → IsMet (skip_table place d)
unfolding skip_table
skip_met place d =
    met_then _ _ (met_refuse _ _ _)
    (met_then _ _
    (met_then _ _ (met_refuse _ _ _)
    (met_each (phase_table _) phase_at (λ earlier one. met_then _ _ (met_refuse _ _ _) (met_refuse _ _ _)) [] _))
    (met_then _ _ (typed_texts_met place (codes "rulesets") d)
    (met_then _ _ (met_refuse _ _ _) (met_each (λ earlier. skipped_table _) skipped_at (λ earlier entry. skipped_met _ entry) [] _))))

override_met : (place : List ℕ) (d : Data) → IsMet (override_table place d)
unfolding override_table
override_met place d = met_then _ _ (met_refuse _ _ _) (met_then _ _ (met_refuse _ _ _) (met_refuse _ _ _))

entry_met : (name entries : List ℕ) (earlier : List (List ℕ × Override)) (d : Data) → IsMet (entry_table name entries earlier d)
unfolding entry_table
entry_met name entries earlier d =
    met_then _ _ (met_refuse _ _ _)
    (met_then _ _ (met_then _ _ (met_refuse _ _ _) (met_refuse _ _ _)) (override_met _ d))

entries_met : (name place : List ℕ) (ds : List Data) → IsMet (each_entry_table name place ds)
entries_met name place ds = met_each (entry_table name place) (entry_at name) (entry_met name place) [] ds

execute_met : (all : List Data) (p : Phase) (place : List ℕ) (d : Data) → IsMet (execute_table all p place d)
unfolding execute_table overrides_table
execute_met all p place d =
    met_then _ _
    (met_then _ _ (met_then _ _ (met_refuse _ _ _) (met_refuse _ _ _)) (met_then _ _ (met_refuse _ _ _) (met_refuse _ _ _)))
    (met_then _ _ (met_refuse _ _ _)
    (met_then _ _ (override_met _ _)
    (met_then _ _ (met_then _ _ (met_refuse _ _ _) (entries_met _ _ _)) (met_then _ _ (met_refuse _ _ _) (entries_met _ _ _)))))

number_met : (first last : ℕ) (place : List ℕ) (d : Data) → IsMet (number_table first last place d)
number_met first last place d = met_then _ _ (met_refuse _ _ _) (met_refuse _ _ _)

module _ (judge : Judgement) (one : AreFound judge) where
  dynamic_met : (at : Place) (place : List ℕ) (d : Data) → IsMet (dynamic_table judge at place d)
  unfolding dynamic_table
  dynamic_met at place d =
      met_then _ _ (met_refuse _ _ _)
      (met_then _ _ (met_refuse _ _ _)
      (met_then _ _ (met_refuse _ _ _) (met_then _ _ (met_refuse _ _ _) (an_expression_met (judge at) (one at) _ _))))

  typed_dynamic_met : (at : Place) (place name : List ℕ) (d : Data) → IsMet (typed_dynamic judge at place name d)
  typed_dynamic_met at place name d = if_there_met (dynamic_table judge at (child place name)) (dynamic_met at (child place name)) (get name d)

  -- ---- rewrites and redirects

  operand_met : (removal : Bool) (at : Place) (place : List ℕ) (d : Data) → IsMet (operand_table removal judge at place d)
  operand_met true at place d = met_nothing
  operand_met false at place d = dynamic_met at place d

  header_met : (at : Place) (headers : List ℕ) (earlier : List HeaderRewriteData) (entry : List ℕ × Data) → IsMet (header_table judge at headers earlier entry)
  unfolding header_table
  header_met at headers earlier entry =
      met_then _ _ (met_refuse _ _ _)
      (met_then _ _ (met_then _ _ (met_refuse _ _ _) (met_refuse _ _ _))
      (met_then _ _ (met_then _ _ (met_refuse _ _ _) (met_refuse _ _ _)) (operand_met (is_removal entry.1) at _ entry.1)))

  uri_met : (at : Place) (place : List ℕ) (d : Data) → IsMet (uri_table judge at place d)
  unfolding uri_table
  uri_met at place d = met_then _ _ (typed_dynamic_met at place (codes "path") d) (typed_dynamic_met at place (codes "query") d)

  parts_met : (b : Bool) (at : Place) (place : List ℕ) (d : Data) → IsMet (parts_table b judge at place d)
  parts_met true at place d =
      met_then _ _ (met_then _ _ (met_refuse _ _ _) (met_refuse _ _ _))
      (met_then _ _ (uri_met at _ _) (met_then _ _ (met_refuse _ _ _) (met_refuse _ _ _)))
  parts_met false at place d =
      met_then _ _ (met_then _ _ (met_refuse _ _ _) (met_refuse _ _ _))
      (met_then _ _ (met_then _ _ (met_refuse _ _ _) (met_refuse _ _ _))
      (met_each (header_table judge at _) header_at (header_met at _) [] _))

  target_met : (at : Place) (place : List ℕ) (d : Data) → IsMet (target_table judge at place d)
  unfolding target_table
  target_met at place d =
      met_then _ _ (met_refuse _ _ _)
      (met_then _ _ (met_then _ _ (met_refuse _ _ _) (typed_dynamic_met at place (codes "target_url") d)) (met_refuse _ _ _))

  redirect_met : (p : Phase) (place : List ℕ) (d : Data) → IsMet (redirect_table judge p place d)
  unfolding redirect_table
  redirect_met p place d = met_then _ _ (met_then _ _ (met_refuse _ _ _) (met_refuse _ _ _)) (target_met (value_place p) _ _)

  -- ---- limits

  characteristic_met : (place text : List ℕ) → IsMet (characteristic judge place text)
  characteristic_met place text = of_found (one stand.Characteristic text) where
    of_found : IsFound (judge stand.Characteristic text) → IsMet (characteristic judge place text)
    of_found (inl taken) = record { found = inl taken }
    of_found (inr (c, refused)) = record { found = inr (record { place = place; cause = cause.BadLimit }, (refl, (c, refused))) }

  characteristic_table_met : (items : List ℕ) (earlier : List (List ℕ)) (d : Data) → IsMet (characteristic_table judge items earlier d)
  unfolding characteristic_table
  characteristic_table_met items earlier d = met_then _ _ (met_refuse _ _ _) (characteristic_met (nth items (length earlier)) (text_of d))

  ranged_met : (first last : ℕ) (place name : List ℕ) (d : Data) → IsMet (if_there (number_table first last (child place name)) (get name d))
  ranged_met first last place name d = if_there_met (number_table first last (child place name)) (number_met first last (child place name)) (get name d)

  held_limit_met : (place : List ℕ) (d : Data) → IsMet (held_limit_table judge place d)
  unfolding held_limit_table numbers_table
  held_limit_met place d =
      met_then _ _ (met_refuse _ _ _)
      (met_then _ _
      (met_then _ _ (met_then _ _ (met_refuse _ _ _) (met_refuse _ _ _))
      (met_then _ _ (met_refuse _ _ _) (met_each (characteristic_table judge _) text_of (characteristic_table_met _) [] _)))
      (met_then _ _
      (met_then _ _ (met_then _ _ (met_refuse _ _ _) (ranged_met _ _ place (codes "period") d))
      (met_then _ _ (met_then _ _ (met_refuse _ _ _) (ranged_met _ _ place (codes "requests_per_period") d))
      (ranged_met _ _ place (codes "mitigation_timeout") d)))
      (met_then _ _ (met_refuse _ _ _) (or_empty_met (judge stand.Count) (one stand.Count) _ _))))

  limit_met : (limited : Bool) (place : List ℕ) (d : Data) → IsMet (limit_table_of limited judge place d)
  limit_met true place d = met_then _ _ (met_then _ _ (met_refuse _ _ _) (met_refuse _ _ _)) (held_limit_met _ _)
  limit_met false place d = met_then _ _ (met_refuse _ _ _) (met_refuse _ _ _)

  -- ---- rules

  parameters_met : (all : List Data) (p : Phase) (a : Action) (place : List ℕ) (d : Data) → IsMet (parameters_table judge all p a place d)
  parameters_met all p action.Block place d = met_then _ _ (met_refuse _ _ _) (block_met _ _)
  parameters_met all p action.ManagedChallenge place d = met_then _ _ (met_refuse _ _ _) met_nothing
  parameters_met all p action.JsChallenge place d = met_then _ _ (met_refuse _ _ _) met_nothing
  parameters_met all p action.Challenge place d = met_then _ _ (met_refuse _ _ _) met_nothing
  parameters_met all p action.Log place d = met_then _ _ (met_refuse _ _ _) met_nothing
  parameters_met all p action.Skip place d = met_then _ _ (met_then _ _ (met_refuse _ _ _) (met_refuse _ _ _)) (skip_met _ _)
  parameters_met all p action.Execute place d = met_then _ _ (met_then _ _ (met_refuse _ _ _) (met_refuse _ _ _)) (execute_met all p _ _)
  parameters_met all p action.Rewrite place d = met_then _ _ (met_then _ _ (met_refuse _ _ _) (met_refuse _ _ _)) (parts_met (rewrites_uri p) (value_place p) _ _)
  parameters_met all p action.Redirect place d = met_then _ _ (met_then _ _ (met_refuse _ _ _) (met_refuse _ _ _)) (redirect_met p _ _)

  head_met : (place : List ℕ) (earlier : List RuleData) (d : Data) → IsMet (head_table place earlier d)
  unfolding head_table rule_id_table
  head_met place earlier d =
      met_then _ _
      (met_then _ _ (met_refuse _ _ _) (met_then _ _ (met_then _ _ (met_refuse _ _ _) (met_refuse _ _ _)) (met_refuse _ _ _)))
      (met_then _ _ (met_refuse _ _ _)
      (met_then _ _ (met_refuse _ _ _) (met_then _ _ (met_refuse _ _ _) (typed_texts_met place (codes "categories") d))))

  rule_met : (all : List Data) (k : RulesetKind) (p : Phase) (rules : List ℕ) (earlier : List RuleData) (d : Data) → IsMet (rule_table judge all k p rules earlier d)
  unfolding rule_table condition_table deed_table action_table
  rule_met all k p rules earlier d =
      met_then _ _ (head_met _ earlier d)
      (met_then _ _
      (met_then _ _ (met_then _ _ (met_refuse _ _ _) (met_refuse _ _ _)) (expression_met (judge (condition_place p)) (one (condition_place p)) _ _))
      (met_then _ _
      (met_then _ _ (met_then _ _ (met_refuse _ _ _) (met_refuse _ _ _))
      (met_then _ _ (met_refuse _ _ _) (met_then _ _ (met_refuse _ _ _) (met_refuse _ _ _))))
      (met_then _ _ (parameters_met all p (action_at d) _ d) (limit_met (is_limited p (action_at d)) _ d))))

  -- ---- rulesets

  set_head_met : (place : List ℕ) (earlier : List RulesetData) (d : Data) → IsMet (set_head_table place earlier d)
  unfolding set_head_table
  set_head_met place earlier d =
      met_then _ _ (met_refuse _ _ _)
      (met_then _ _ (met_then _ _ (met_refuse _ _ _) (met_refuse _ _ _))
      (met_then _ _ (met_refuse _ _ _)
      (met_then _ _ (met_refuse _ _ _)
      (met_then _ _ (met_then _ _ (met_then _ _ (met_refuse _ _ _) (met_refuse _ _ _)) (met_refuse _ _ _))
      (met_then _ _ (met_then _ _ (met_then _ _ (met_refuse _ _ _) (met_refuse _ _ _)) (met_refuse _ _ _)) (met_refuse _ _ _))))))

  ruleset_met : (all : List Data) (rulesets : List ℕ) (earlier : List RulesetData) (d : Data) → IsMet (ruleset_table judge all rulesets earlier d)
  unfolding ruleset_table
  ruleset_met all rulesets earlier d =
      met_then _ _ (set_head_met _ earlier d)
      (met_then _ _ (met_refuse _ _ _)
      (met_then _ _ (met_refuse _ _ _) (met_each (rule_table judge all _ _ _) (rule_at all _) (rule_met all _ _ _) [] _)))

  rulesets_met : (d : Data) → IsMet (rulesets_table judge d)
  unfolding rulesets_table
  rulesets_met d =
      met_then _ _ (met_refuse _ _ _)
      (met_then _ _ (met_refuse _ _ _) (met_each (ruleset_table judge _ _) (ruleset_at _) (ruleset_met _ _) [] _))

-- ---- a document

document_met : (judge : List (List ℕ × Basic) → Judgement) → ((lists : List (List ℕ × Basic)) → AreFound (judge lists)) → (d : Data) → IsMet (document_table judge d)
unfolding document_table
document_met judge one d =
    met_then _ _ (met_refuse _ _ _)
    (met_then _ _ (met_refuse _ _ _) (met_then _ _ (lists_met d) (rulesets_met (judge _) (one _) d)))

-- ---- texts, with patterns

-- a fault of the parser that is none of memory has a cause
fault_cause : (f : ParseFault) → f ≢ parsing.Memory → (c : Cause) × (parse_cause f ≡ Some c)
fault_cause parsing.TooLong other = (cause.ExpressionTooLong, refl)
fault_cause (parsing.Lex at) other = (cause.Lex, refl)
fault_cause (parsing.Syntax at) other = (cause.Syntax, refl)
fault_cause parsing.TooDeep other = (cause.TooDeep, refl)
fault_cause parsing.Memory other = absurd (other refl)

text_found : (lists : List (List ℕ × Basic)) → AreFound (judged lists)
text_found lists at text = of_answer (parser.answer_found text) where
  of_check : (e : Expr) → IsAnswer text (Ok e) → IsChecked (findings_of lists at e) None ⊎ ((first : Fault) × IsChecked (findings_of lists at e) (Some first))
      → IsFound (judged lists at text)
  of_check e is (inl sound) = inl (e, is, sound)
  of_check e is (inr (first, found)) = inr (type_cause first.cause, inr (e, first, is, found, refl))

  of_answer : HasAnswer text → IsFound (judged lists at text)
  of_answer (Ok e, other, is) = of_check e is (answer_found (findings_of lists at e))
  of_answer (Err f, other, is) = let told = fault_cause f (λ e. other (ap Err e)) in inr (told.0, inl (f, is, told.1))

-- a document comes to something
pub reading_met : (d : Data) → IsMet (document_table judged d)
reading_met d = document_met judged text_found d
