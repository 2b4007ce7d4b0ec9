-- What rules do is valid where nothing of it is refused.
use Rattle.std.proofs.Common.{◌≡◌, ◌||◌, ◌&&◌, ◌++◌, ℕ, Bool, true, false, not, List, [], ◌∷◌, map, is_some, is_none, Option, None, Some, option_map, option_and_then, unwrap_or, IfSome, IsUtf8, IsAscii, nat_lt, ltb-true, codes, if◌then◌else◌, refl, sym, ap, ◌∙◌, subst, true≢false}
use Rattle.std.specs.Bool.{then_some}
use Rattle.std.specs.List.{All, AllByRecursion, list_all}
use Rattle.std.proofs.lemmas.List.Elements.{All-from_recursion}
use Rattle.std.proofs.lemmas.Str.{IsUtf8-from_ascii}
use Rattle.std.proofs.lemmas.Str.Ascii.{IsAscii-nil, IsAscii-cons}
use Rattle.serde_json.specs.Data.{Data, null, boolean, number, string, array, object}
use Rattle.serde_json.specs.Find.{get, as_str}
use Rattle.edge_base.specs.Bytes.{newline}
use Rattle.list_store.specs.declared.part.ListPart.{ListPart}
use Rattle.list_store.specs.Listed.{list_kinds_of}
use Rattle.override_plan.specs.declared.overrides.Overrides.{Overrides}
use Rattle.override_plan.specs.declared.plain.Plain.{Plain}
use Rattle.ruleset_model.specs.declared.act.Act.{Act}
use Rattle.ruleset_model.specs.declared.act.Act.TheVariants as act
use Rattle.ruleset_model.specs.declared.phase.Phase.{Phase}
use Rattle.ruleset_model.specs.declared.ruleset.Ruleset.{Ruleset}
use Rattle.ruleset_model.specs.declared.ruleset.RulesetKind.{RulesetKind}
use Rattle.ruleset_model.specs.declared.ruleset.RulesetKind.TheVariants as kind
use Rattle.ruleset_model.specs.declared.skips.Skips.{Skips}
use Rattle.ruleset_model.specs.declared.verdict.Response.{Response}
use Rattle.ruleset_model.specs.Acts.{AreUtf8, IsResponseValid, is_challenge, IsExecution, IsActValid, is_placed as is_act_placed}
use Rattle.ruleset_model.specs.Data.{ActData, blocks, challenges, logs, skips, executes, rewrites, redirects, act_data, set_data}
use Rattle.ruleset_model.specs.Entries.{is_zone}
use Rattle.ruleset_model.specs.Forms.{is_block_status, is_header_value}
use Rattle.ruleset_model.specs.Phases.{is_firewall, is_limiting, is_redirecting}
use Rattle.ruleset_model.specs.Valid.{is_execute as is_execution}
use Rattle.config_read.specs.declared.action.Action.{Action}
use Rattle.config_read.specs.declared.action.Action.TheVariants as action
use Rattle.config_read.specs.Judged.{Judgement}
use Rattle.config_read.specs.Members.{text_of, texts, elements, entries, member, value_or}
use Rattle.config_read.specs.Forms.{block_status, header_value, text_that}
use Rattle.config_read.specs.Names.{is_placed, is_nested, is_execute}
use Rattle.config_read.specs.Blocks.{default_status, response_at, block_at}
use Rattle.config_read.specs.Skipped.{items_at, skipped_at, skips_at}
use Rattle.config_read.specs.Parameters.{parameters_table, parameters, act_of}
use Rattle.config_read.specs.RulesetsOf.{ruleset_at}
use Rattle.config_read.specs.Filters.{IsActBuilt}
use Rattle.config_read.proofs.BoolLemmas.{both_left, both_right}
use Rattle.config_read.proofs.FormedLemmas.{IsFormed, IsEntryFormed, get_formed, member_formed, items_in_formed, text_or_utf8, texts_of_utf8, texts_utf8, entries_formed}
use Rattle.config_read.proofs.ValidExecutions.{execution_valid}
use Rattle.config_read.proofs.ValidRewrites.{IsRewriteFit, rewrite_fit, rewrite_valid, is_placed_rewrite, rewrite_placed, placed_rewrite, IsRedirectFit, redirect_fit, redirect_valid, value_passes}

-- ---- responses

status_fits : (limiting : Bool) → is_block_status (if limiting then 429 else 403) ≡ true
status_fits true = refl
status_fits false = refl

default_fits : (p : Phase) → is_block_status (default_status p) ≡ true
default_fits p = status_fits (is_limiting p)

ascii_of : (bytes : List ℕ) → list_all (λ (b : ℕ). nat_lt b 128) bytes ≡ true → IsAscii bytes
ascii_of [] all = IsAscii-nil
ascii_of (b ∷ bytes) all =
    IsAscii-cons b bytes (ltb-true b 128 (both_left (nat_lt b 128) (list_all (λ (c : ℕ). nat_lt c 128) bytes) all))
    (ascii_of bytes (both_right (nat_lt b 128) (list_all (λ (c : ℕ). nat_lt c 128) bytes) all))

ascii_text : (bytes : List ℕ) → list_all (λ (b : ℕ). nat_lt b 128) bytes ≡ true → IsUtf8 bytes
ascii_text bytes all = IsUtf8-from_ascii bytes (ascii_of bytes all)

content_text : IsUtf8 (codes "blocked" ++ newline ∷ [])
content_text = ascii_text (codes "blocked" ++ newline ∷ []) refl

plain_text : IsUtf8 (codes "text/plain")
plain_text = ascii_text (codes "text/plain") refl

-- a text that is the value of one header
pub record IsHeaderText (value : List ℕ) : Type 0 where
  pub is_text : IsUtf8 value
  pub is_value : is_header_value value ≡ true

tested_text : (value default : List ℕ) (is : Bool) → is_header_value value ≡ is → IsUtf8 value → IsHeaderText default
    → IsHeaderText (unwrap_or (then_some is value) default)
tested_text value default true e is_text other = record { is_text = is_text; is_value = e }
tested_text value default false e is_text other = other

header_text_of : (d : Data) (default : List ℕ) → IsFormed d → IsHeaderText default → IsHeaderText (unwrap_or (header_value d) default)
header_text_of null default formed other = other
header_text_of (boolean b) default formed other = other
header_text_of (number n) default formed other = other
header_text_of (string value) default formed other = tested_text value default (is_header_value value) refl formed other
header_text_of (array ds) default formed other = other
header_text_of (object ms) default formed other = other

header_text_in : (found : Option Data) (default : List ℕ) → IfSome found IsFormed → IsHeaderText default
    → IsHeaderText (unwrap_or (option_and_then header_value found) default)
header_text_in None default formed other = other
header_text_in (Some d) default formed other = header_text_of d default formed other

response_fit : (p : Phase) (d : Data) → IsFormed d → IsResponseValid (response_at p d)
unfolding response_at
response_fit p d formed =
    let typed = header_text_in (get (codes "content_type") d) (codes "text/plain") (get_formed (codes "content_type") d formed) (record { is_text = plain_text; is_value = refl }) in record {
      status = value_passes is_block_status (default_status p) (codes "status_code") d (default_fits p);
      content = text_or_utf8 (codes "blocked" ++ newline ∷ []) (codes "content") d formed content_text;
      content_type = typed.is_text;
      header = typed.is_value;
    }

response_found : (p : Phase) (found : Option Data) → IfSome found IsFormed → IfSome (option_map (response_at p) found) IsResponseValid
response_found p None formed = tt
response_found p (Some d) formed = response_fit p d formed

-- ---- skips

-- the texts of what is skipped are UTF-8
pub record AreSkipsText (skipped : Skips) : Type 0 where
  pub rulesets : AreUtf8 skipped.rulesets
  pub ids : AreUtf8 (map (λ (entry : List ℕ × List (List ℕ)). entry.0) skipped.rules)
  pub rules : All (λ (entry : List ℕ × List (List ℕ)). AreUtf8 entry.1) skipped.rules

ids_text : (given : List (List ℕ × Data)) → AllByRecursion IsEntryFormed given
    → AllByRecursion IsUtf8 (map (λ (entry : List ℕ × List (List ℕ)). entry.0) (map skipped_at given))
ids_text [] formed = tt
ids_text (entry ∷ given) formed = (formed.0.0, ids_text given formed.1)

rules_text : (given : List (List ℕ × Data)) → AllByRecursion IsEntryFormed given
    → AllByRecursion (λ (entry : List ℕ × List (List ℕ)). AreUtf8 entry.1) (map skipped_at given)
rules_text [] formed = tt
rules_text (entry ∷ given) formed =
    (All-from_recursion IsUtf8 (map text_of (items_at entry.1)) (texts_of_utf8 (items_at entry.1) (items_in_formed entry.1 formed.0.1)), rules_text given formed.1)

skips_text : (d : Data) → IsFormed d → AreSkipsText (skips_at d)
unfolding skips_at
skips_text d formed =
    let given = entries (codes "rules") d in
    let all = entries_formed (codes "rules") d formed in record {
      rulesets = texts_utf8 (codes "rulesets") d formed;
      ids = All-from_recursion IsUtf8 (map (λ (entry : List ℕ × List (List ℕ)). entry.0) (map skipped_at given)) (ids_text given all);
      rules = All-from_recursion (λ (entry : List ℕ × List (List ℕ)). AreUtf8 entry.1) (map skipped_at given) (rules_text given all);
    }

-- ---- what rules do

-- what is known of what a rule does without what was built
abbrev pub IsActFit : List Ruleset → Phase → ActData → Type 0
IsActFit all p (blocks response) = IfSome response IsResponseValid
IsActFit all p (challenges plain) = is_challenge plain ≡ true
IsActFit all p logs = Unit {0}
IsActFit all p (skips skipped) = AreSkipsText skipped
IsActFit all p (executes place overrides) = IsExecution all p place overrides
IsActFit all p (rewrites rewrite) = IsRewriteFit rewrite
IsActFit all p (redirects redirect) = IsRedirectFit redirect

pub act_valid : (lists : List ListPart) (all : List Ruleset) (p : Phase) (a : Act) → IsActFit all p (act_data a) → IsActBuilt (list_kinds_of lists) p a
    → IsActValid lists all p a
act_valid lists all p (act.Block response) fit built = fit
act_valid lists all p (act.Challenge plain) fit built = fit
act_valid lists all p act.Log fit built = tt
act_valid lists all p (act.Skip skipped) fit built = record { rulesets = fit.rulesets; ids = fit.ids; in_order = built; rules = fit.rules }
act_valid lists all p (act.Execute place overrides) fit built = fit
act_valid lists all p (act.Rewrite rewrite) fit built = rewrite_valid lists p rewrite fit built
act_valid lists all p (act.Redirect redirect) fit built = redirect_valid lists p redirect fit built

pub act_fit : (judge : Judgement) (all : List Data) (sets : List Ruleset) (p : Phase) (a : Action) (place : List ℕ) (d : Data)
    → map set_data sets ≡ map (ruleset_at all) all → IsFormed d → parameters_table judge all p a place d None → IsActFit sets p (act_of all p a (parameters d))
act_fit judge all sets p action.Block place d same formed passed =
    let held = member_formed (codes "action_parameters") d formed in
    response_found p (get (codes "response") (parameters d)) (get_formed (codes "response") (parameters d) held)
act_fit judge all sets p action.ManagedChallenge place d same formed passed = refl
act_fit judge all sets p action.JsChallenge place d same formed passed = refl
act_fit judge all sets p action.Challenge place d same formed passed = refl
act_fit judge all sets p action.Log place d same formed passed = tt
act_fit judge all sets p action.Skip place d same formed passed = skips_text (parameters d) (member_formed (codes "action_parameters") d formed)
act_fit judge all sets p action.Execute place d same formed passed =
    execution_valid p all sets _ (parameters d) same (member_formed (codes "action_parameters") d formed) passed.1
act_fit judge all sets p action.Rewrite place d same formed passed =
    rewrite_fit _ judge _ _ (parameters d) (member_formed (codes "action_parameters") d formed) passed.1
act_fit judge all sets p action.Redirect place d same formed passed = redirect_fit (parameters d) (member_formed (codes "action_parameters") d formed)

-- ---- where it may stand

abbrev pub is_data_placed : RulesetKind → Phase → ActData → Bool
is_data_placed k p (blocks response) = is_firewall p || is_limiting p
is_data_placed k p (challenges plain) = is_firewall p || is_limiting p
is_data_placed k p logs = is_firewall p || is_limiting p
is_data_placed k p (skips skipped) = is_firewall p
is_data_placed k p (executes place overrides) = is_zone k
is_data_placed k p (rewrites rewrite) = is_placed_rewrite p rewrite
is_data_placed k p (redirects redirect) = is_redirecting p

pub placed_as : (k : RulesetKind) (p : Phase) (a : Act) → is_act_placed k p a ≡ is_data_placed k p (act_data a)
placed_as k p (act.Block response) = refl
placed_as k p (act.Challenge plain) = refl
placed_as k p act.Log = refl
placed_as k p (act.Skip skipped) = refl
placed_as k p (act.Execute place overrides) = refl
placed_as k p (act.Rewrite rewrite) = placed_rewrite p rewrite
placed_as k p (act.Redirect redirect) = refl

in_a_zone : (k : RulesetKind) → is_nested k action.Execute ≡ false → is_zone k ≡ true
in_a_zone kind.Managed nested = absurd (true≢false nested)
in_a_zone kind.Custom nested = absurd (true≢false nested)
in_a_zone kind.Zone nested = refl

pub act_placed : (judge : Judgement) (all : List Data) (k : RulesetKind) (p : Phase) (a : Action) (place : List ℕ) (d : Data) → is_placed p a ≡ true
    → is_nested k a ≡ false → parameters_table judge all p a place d None → is_data_placed k p (act_of all p a (parameters d)) ≡ true
act_placed judge all k p action.Block place d placed nested passed = placed
act_placed judge all k p action.ManagedChallenge place d placed nested passed = placed
act_placed judge all k p action.JsChallenge place d placed nested passed = placed
act_placed judge all k p action.Challenge place d placed nested passed = placed
act_placed judge all k p action.Log place d placed nested passed = placed
act_placed judge all k p action.Skip place d placed nested passed = placed
act_placed judge all k p action.Execute place d placed nested passed = in_a_zone k nested
act_placed judge all k p action.Rewrite place d placed nested passed = rewrite_placed p judge _ (parameters d) placed passed.1
act_placed judge all k p action.Redirect place d placed nested passed = placed

-- ---- which rules execute

abbrev is_data_execution : ActData → Bool
is_data_execution (executes place overrides) = true
is_data_execution other = false

executes_as : (a : Act) → is_execution a ≡ is_data_execution (act_data a)
executes_as (act.Block response) = refl
executes_as (act.Challenge plain) = refl
executes_as act.Log = refl
executes_as (act.Skip skipped) = refl
executes_as (act.Execute place overrides) = refl
executes_as (act.Rewrite rewrite) = refl
executes_as (act.Redirect redirect) = refl

action_executes : (all : List Data) (p : Phase) (a : Action) (d : Data) → is_data_execution (act_of all p a d) ≡ is_execute a
action_executes all p action.Block d = refl
action_executes all p action.ManagedChallenge d = refl
action_executes all p action.JsChallenge d = refl
action_executes all p action.Challenge d = refl
action_executes all p action.Log d = refl
action_executes all p action.Skip d = refl
action_executes all p action.Execute d = refl
action_executes all p action.Rewrite d = refl
action_executes all p action.Redirect d = refl

pub executes_where : (all : List Data) (p : Phase) (a : Action) (d : Data) (done : Act) → act_data done ≡ act_of all p a d → is_execution done ≡ is_execute a
executes_where all p a d done same = executes_as done ∙ ap is_data_execution same ∙ action_executes all p a d
