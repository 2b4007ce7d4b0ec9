-- Which actions may stand in a phase, and what holds of what they have.
use Rattle.std.specs.Prelude.{◌≡◌, ℕ, Bool, true, false, not, ◌&&◌, ◌||◌, List, map, Some, is_some, is_none, slice_get, IfSome}
use Rattle.std.specs.List.{All}
use Rattle.std.specs.List.Sorted.{IsStrictlySortedBy}
use Rattle.std.specs.Cmp.Lexicographic.{slice_cmp}
use Rattle.std.specs.Ordering.{nat_cmp}
use Rattle.std.specs.Str.{IsUtf8, str_to_ascii_lowercase}
use Rattle.list_store.specs.declared.part.ListPart.{ListPart}
use Rattle.override_plan.specs.declared.overrides.Override.{Override}
use Rattle.override_plan.specs.declared.overrides.Overrides.{Overrides}
use Rattle.override_plan.specs.declared.plain.Plain.{Plain}
use Rattle.override_plan.specs.declared.plain.Plain.TheVariants as plain
use Rattle.ruleset_model.specs.declared.act.Act.{Act}
use Rattle.ruleset_model.specs.declared.act.Act.TheVariants as act
use Rattle.ruleset_model.specs.declared.act.Redirect.{Redirect}
use Rattle.ruleset_model.specs.declared.dynamic.Dynamic.{Dynamic}
use Rattle.ruleset_model.specs.declared.dynamic.Dynamic.TheVariants as dynamic
use Rattle.ruleset_model.specs.declared.phase.Phase.{Phase}
use Rattle.ruleset_model.specs.declared.rewrite.HeaderRewrite.{HeaderRewrite}
use Rattle.ruleset_model.specs.declared.rewrite.Operation.{Operation}
use Rattle.ruleset_model.specs.declared.rewrite.Operation.TheVariants as operation
use Rattle.ruleset_model.specs.declared.rewrite.Rewrite.{Rewrite}
use Rattle.ruleset_model.specs.declared.rewrite.UriRewrite.{UriRewrite}
use Rattle.ruleset_model.specs.declared.ruleset.Ruleset.{Ruleset}
use Rattle.ruleset_model.specs.declared.ruleset.RulesetKind.{RulesetKind}
use Rattle.ruleset_model.specs.declared.skips.Skips.{Skips}
use Rattle.ruleset_model.specs.declared.verdict.Response.{Response}
use Rattle.ruleset_model.specs.Built.{IsBuilt}
use Rattle.ruleset_model.specs.Entries.{is_zone}
use Rattle.ruleset_model.specs.Forms.{is_rewritable, is_header_value, is_block_status, is_redirect_status}
use Rattle.ruleset_model.specs.Phases.{same_phase, is_firewall, is_limiting, is_redirecting, rewrites_uri, rewrites_headers, value_place}

-- each of the texts is UTF-8
abbrev pub AreUtf8 : List (List ℕ) → Type 0
AreUtf8 texts = All IsUtf8 texts

-- the texts stand in byte order, and no two are the same
abbrev pub AreInOrder : List (List ℕ) → Type 0
AreInOrder texts = IsStrictlySortedBy (slice_cmp nat_cmp) texts

-- a status from 400 to 499, and a content type that is the value of one header
pub record IsResponseValid (response : Response) : Type 0 where
  pub status : is_block_status response.status_code ≡ true
  pub content : IsUtf8 response.content
  pub content_type : IsUtf8 response.content_type
  pub header : is_header_value response.content_type ≡ true

abbrev pub is_challenge : Plain → Bool
is_challenge plain.ManagedChallenge = true
is_challenge plain.JsChallenge = true
is_challenge plain.Challenge = true
is_challenge _ = false

-- each ruleset of which rules are skipped is named once, in byte order
pub record AreSkipsValid (skipped : Skips) : Type 0 where
  pub rulesets : AreUtf8 skipped.rulesets
  pub ids : AreUtf8 (map (λ (entry : List ℕ × List (List ℕ)). entry.0) skipped.rules)
  pub in_order : AreInOrder (map (λ (entry : List ℕ × List (List ℕ)). entry.0) skipped.rules)
  pub rules : All (λ (entry : List ℕ × List (List ℕ)). AreUtf8 entry.1) skipped.rules

-- the names that overrides are for
abbrev pub names_of : List (List ℕ × Override) → List (List ℕ)
names_of entries = map (λ (entry : List ℕ × Override). entry.0) entries

-- a ruleset that rules of the phase may execute: one of that phase that isn't an entry point
abbrev pub is_executable : Phase → Ruleset → Bool
is_executable phase set = not (is_zone set.kind) && same_phase set.phase phase

-- the ruleset at the place may be executed, and the names of the overrides are texts
pub record IsExecution (all : List Ruleset) (phase : Phase) (place : ℕ) (overrides : Overrides) : Type 0 where
  pub meant : (set : Ruleset) × (slice_get all place ≡ Some set) × (is_executable phase set ≡ true)
  pub tags : AreUtf8 (names_of overrides.tags)
  pub rules : AreUtf8 (names_of overrides.rules)

-- a text, or what an expression gives at its phase
abbrev pub IsDynamicValid : List ListPart → Phase → Dynamic → Type 0
IsDynamicValid lists phase (dynamic.Fixed text) = IsUtf8 text
IsDynamicValid lists phase (dynamic.Computed built source) = IsBuilt lists (value_place phase) source built

pub record IsUriValid (lists : List ListPart) (phase : Phase) (uri : UriRewrite) : Type 0 where
  pub path : IfSome uri.path (IsDynamicValid lists phase)
  pub query : IfSome uri.query (IsDynamicValid lists phase)

abbrev pub IsOperationValid : List ListPart → Phase → Operation → Type 0
IsOperationValid lists phase (operation.Set value) = IsDynamicValid lists phase value
IsOperationValid lists phase (operation.Add value) = IsDynamicValid lists phase value
IsOperationValid lists phase operation.Remove = Unit {0}

-- the names of the changes in lower case
abbrev pub lower_names : List HeaderRewrite → List (List ℕ)
lower_names headers = map (λ (header : HeaderRewrite). str_to_ascii_lowercase header.name) headers

-- each name may be rewritten and comes once, in whatever case, and they stand in byte order of their lower case
pub record AreHeadersValid (lists : List ListPart) (phase : Phase) (headers : List HeaderRewrite) : Type 0 where
  pub names : All (λ lower. is_rewritable lower ≡ true) (lower_names headers)
  pub in_order : AreInOrder (lower_names headers)
  pub operations : All (λ (header : HeaderRewrite). IsOperationValid lists phase header.operation) headers

pub record IsRewriteValid (lists : List ListPart) (phase : Phase) (rewrite : Rewrite) : Type 0 where
  pub uri : IfSome rewrite.uri (IsUriValid lists phase)
  pub headers : IfSome rewrite.headers (AreHeadersValid lists phase)

pub record IsRedirectValid (lists : List ListPart) (phase : Phase) (redirect : Redirect) : Type 0 where
  pub status : is_redirect_status redirect.status_code ≡ true
  pub target : IsDynamicValid lists phase redirect.target_url

-- what an action holds is valid
abbrev pub IsActValid : List ListPart → List Ruleset → Phase → Act → Type 0
IsActValid lists all phase (act.Block response) = IfSome response IsResponseValid
IsActValid lists all phase (act.Challenge plain) = is_challenge plain ≡ true
IsActValid lists all phase act.Log = Unit {0}
IsActValid lists all phase (act.Skip skipped) = AreSkipsValid skipped
IsActValid lists all phase (act.Execute place overrides) = IsExecution all phase place overrides
IsActValid lists all phase (act.Rewrite rewrite) = IsRewriteValid lists phase rewrite
IsActValid lists all phase (act.Redirect redirect) = IsRedirectValid lists phase redirect

-- a rewrite has the one part that its phase wants
abbrev pub is_rewrite_placed : Phase → Rewrite → Bool
is_rewrite_placed phase rewrite =
    (rewrites_uri phase && is_some rewrite.uri && is_none rewrite.headers)
    || (rewrites_headers phase && is_some rewrite.headers && is_none rewrite.uri)

-- whether rules with the action may stand in a ruleset of the kind and the phase; what is executed executes nothing
abbrev pub is_placed : RulesetKind → Phase → Act → Bool
is_placed kind phase (act.Block response) = is_firewall phase || is_limiting phase
is_placed kind phase (act.Challenge plain) = is_firewall phase || is_limiting phase
is_placed kind phase act.Log = is_firewall phase || is_limiting phase
is_placed kind phase (act.Skip skipped) = is_firewall phase
is_placed kind phase (act.Execute place overrides) = is_zone kind
is_placed kind phase (act.Rewrite rewrite) = is_rewrite_placed phase rewrite
is_placed kind phase (act.Redirect redirect) = is_redirecting phase
