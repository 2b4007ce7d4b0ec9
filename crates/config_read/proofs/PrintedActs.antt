-- What rules do is read again as it is printed.
use Rattle.std.proofs.Common.{◌≡◌, ◌&&◌, ◌||◌, ℕ, Bool, true, false, not, List, [], ◌∷◌, map, slice_get, is_none, is_some, Option, None, Some, option_map, unwrap_or, IfSome, refl, sym, ap, ◌∙◌, subst, codes, true≢false}
use Rattle.std.specs.List.{find, position}
use Rattle.serde_json.specs.Data.{Data, null, boolean, string, object, member, no_members, put}
use Rattle.serde_json.specs.Find.{get}
use Rattle.serde_json.specs.View.{items_of}
use Rattle.list_store.specs.declared.part.ListPart.{ListPart}
use Rattle.override_plan.specs.declared.overrides.Overrides.{Overrides}
use Rattle.override_plan.specs.declared.plain.Plain.{Plain}
use Rattle.override_plan.specs.declared.plain.Plain.TheVariants as plain
use Rattle.ruleset_model.specs.declared.act.Act.{Act}
use Rattle.ruleset_model.specs.declared.act.Act.TheVariants as act
use Rattle.ruleset_model.specs.declared.act.Redirect.{Redirect}
use Rattle.ruleset_model.specs.declared.dynamic.Dynamic.{Dynamic}
use Rattle.ruleset_model.specs.declared.phase.Phase.{Phase}
use Rattle.ruleset_model.specs.declared.rewrite.UriRewrite.{UriRewrite}
use Rattle.ruleset_model.specs.declared.rewrite.Rewrite.{Rewrite}
use Rattle.ruleset_model.specs.declared.verdict.Response.{Response}
use Rattle.ruleset_model.specs.Acts.{IsRedirectValid, IsUriValid, IsDynamicValid}
use Rattle.ruleset_model.specs.Data.{redirect_data, uri_data, dynamic_data}
use Rattle.ruleset_model.specs.Forms.{is_redirect_status}
use Rattle.ruleset_model.specs.Phases.{value_place}
use Rattle.config_read.specs.Judged.{Judgement}
use Rattle.config_read.specs.Places.{child}
use Rattle.config_read.specs.Members.{if_there, member as member_at}
use Rattle.config_read.specs.Values.{dynamic_table, dynamic_at, typed_dynamic}
use Rattle.config_read.specs.Rewrites.{uri_table, uri_at, target_table, redirect_table, target_at, redirect_at}
use Rattle.config_read.specs.Printed.{put_some, printed_dynamic, printed_redirect, printed_uri}
use Rattle.config_read.proofs.PrintedMembers.{got, got_other, is_there, is_it}
use Rattle.config_read.proofs.PrintedValues.{Takes, dynamic_passes, dynamic_back}

-- ---- redirects

pub redirect_passes : (lists : List ListPart) (judge : Judgement) (phase : Phase) (place : List ℕ) (redirect : Redirect) → Takes lists judge
    → IsRedirectValid lists phase redirect → redirect_table judge phase place (printed_redirect redirect) None
unfolding redirect_table target_table printed_redirect
redirect_passes lists judge phase place redirect takes valid = (
  (refl, refl),
  (
    is_there (is_redirect_status redirect.status_code) redirect.status_code valid.status,
    ((refl, dynamic_passes lists judge phase _ redirect.target_url takes valid.target), refl),
  ),
)

pub redirect_back : (lists : List ListPart) (phase : Phase) (redirect : Redirect) → IsRedirectValid lists phase redirect
    → redirect_at (printed_redirect redirect) ≡ redirect_data redirect
unfolding target_at printed_redirect
redirect_back lists phase redirect valid = λ i. record {
  status_code = is_it (is_redirect_status redirect.status_code) redirect.status_code 302 valid.status i;
  target_url = dynamic_back redirect.target_url i;
  preserve_query_string = redirect.preserve_query_string;
}

-- ---- rewrites of the uri

path_got : (uri : UriRewrite) → get (codes "path") (printed_uri uri) ≡ option_map printed_dynamic uri.path
unfolding printed_uri
path_got uri =
    got_other (codes "path") (codes "query") (option_map printed_dynamic uri.query) (put_some (codes "path") (option_map printed_dynamic uri.path) no_members) refl
    ∙ got (codes "path") (option_map printed_dynamic uri.path) no_members refl

query_got : (uri : UriRewrite) → get (codes "query") (printed_uri uri) ≡ option_map printed_dynamic uri.query
unfolding printed_uri
query_got uri = got (codes "query") (option_map printed_dynamic uri.query) (put_some (codes "path") (option_map printed_dynamic uri.path) no_members) (got_other (codes "query") (codes "path") (option_map printed_dynamic uri.path) no_members refl)

part_passes : (lists : List ListPart) (judge : Judgement) (phase : Phase) (place : List ℕ) (part : Option Dynamic) → Takes lists judge
    → IfSome part (IsDynamicValid lists phase) → if_there (dynamic_table judge (value_place phase) place) (option_map printed_dynamic part) None
part_passes lists judge phase place None takes valid = refl
part_passes lists judge phase place (Some value) takes valid = dynamic_passes lists judge phase place value takes valid

part_back : (part : Option Dynamic) → option_map dynamic_at (option_map printed_dynamic part) ≡ option_map dynamic_data part
part_back None = refl
part_back (Some value) = ap Some (dynamic_back value)

pub uri_passes : (lists : List ListPart) (judge : Judgement) (phase : Phase) (place : List ℕ) (uri : UriRewrite) → Takes lists judge
    → IsUriValid lists phase uri → uri_table judge (value_place phase) place (printed_uri uri) None
unfolding uri_table
uri_passes lists judge phase place uri takes valid = (
  subst (λ (o : Option Data). if_there (dynamic_table judge (value_place phase) (child place (codes "path"))) o None) (sym (path_got uri))
      (part_passes lists judge phase _ uri.path takes valid.path),
  subst (λ (o : Option Data). if_there (dynamic_table judge (value_place phase) (child place (codes "query"))) o None) (sym (query_got uri))
      (part_passes lists judge phase _ uri.query takes valid.query),
)

pub uri_back : (uri : UriRewrite) → uri_at (printed_uri uri) ≡ uri_data uri
uri_back uri = λ i. record {
  path = (ap (λ (o : Option Data). option_map dynamic_at o) (path_got uri) ∙ part_back uri.path) i;
  query = (ap (λ (o : Option Data). option_map dynamic_at o) (query_got uri) ∙ part_back uri.query) i;
}
