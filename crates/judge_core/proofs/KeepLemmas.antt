-- A rule's changes of headers and of the target are kept one after the other.
use Rattle.std.proofs.Common.{◌≡◌, ℕ, ◌+◌, ◌<◌, List, ◌∷◌, length, drop, get_or, Option, None, Some, refl, sym, ap, ◌∙◌}
use Rattle.std.proofs.lemmas.List.{drop_more}
use Rattle.std.specs.Option.{option_or}
use Rattle.rewrite_apply.specs.declared.changes.HeaderChange.{HeaderChange}
use Rattle.ruleset_model.specs.ConfigParts.{ConfigParts}
use Rattle.ruleset_model.specs.declared.dynamic.Dynamic.{Dynamic}
use Rattle.ruleset_model.specs.declared.dynamic.Dynamic.TheVariants as dynamic
use Rattle.ruleset_model.specs.declared.rewrite.HeaderRewrite.{HeaderRewrite}
use Rattle.ruleset_model.specs.declared.rewrite.Operation.{Operation}
use Rattle.ruleset_model.specs.declared.rewrite.Operation.TheVariants as operation
use Rattle.ruleset_model.specs.declared.rewrite.Rewrite.{Rewrite}
use Rattle.ruleset_model.specs.declared.rewrite.UriRewrite.{UriRewrite}
use Rattle.judge_core.specs.declared.carried.State.{State}
use Rattle.judge_core.specs.Changing.{part_text, change_on, with_change, header_kept, headers_kept, path_kept, query_kept, all_kept}
use Rattle.judge_core.specs.Keeping.{KeepsHeader, KeepsSomeHeaders, KeepsSomeUri, KeepsRewrite}
use Rattle.judge_core.specs.Places.{carried_of, with_headers, with_uri}
use Rattle.judge_core.specs.Values.{Listed}

-- the texts of parts don't depend on the changes of headers
part_same : (listed : Listed) (config : ConfigParts) (part : Option Dynamic) (headers : List HeaderChange) (state : State)
    → part_text listed part (carried_of config (with_headers headers state)) ≡ part_text listed part (carried_of config state)
part_same listed config None headers state = refl
part_same listed config (Some (dynamic.Fixed text)) headers state = refl
part_same listed config (Some (dynamic.Computed filter source)) headers state = refl

path_same : (listed : Listed) (config : ConfigParts) (uri : Option UriRewrite) (headers : List HeaderChange) (state : State)
    → path_kept listed uri (carried_of config (with_headers headers state)) ≡ path_kept listed uri (carried_of config state)
path_same listed config None headers state = refl
path_same listed config (Some uri) headers state =
    ap (λ text. option_or text state.changes.path) (part_same listed config uri.path headers state)

query_same : (listed : Listed) (config : ConfigParts) (uri : Option UriRewrite) (headers : List HeaderChange) (state : State)
    → query_kept listed uri (carried_of config (with_headers headers state)) ≡ query_kept listed uri (carried_of config state)
query_same listed config None headers state = refl
query_same listed config (Some uri) headers state =
    ap (λ text. option_or text state.changes.query) (part_same listed config uri.query headers state)

-- what an operation does doesn't depend on the changes of headers
change_same : (listed : Listed) (config : ConfigParts) (one : Operation) (headers : List HeaderChange) (state : State)
    → change_on listed one (carried_of config (with_headers headers state)) ≡ change_on listed one (carried_of config state)
change_same listed config (operation.Set (dynamic.Fixed text)) headers state = refl
change_same listed config (operation.Set (dynamic.Computed filter source)) headers state = refl
change_same listed config (operation.Add (dynamic.Fixed text)) headers state = refl
change_same listed config (operation.Add (dynamic.Computed filter source)) headers state = refl
change_same listed config operation.Remove headers state = refl

-- one header more is kept
pub header_more : (listed : Listed) (config : ConfigParts) (all : List HeaderRewrite) (i : ℕ) (header : HeaderRewrite) (first before after : State)
    (whole : List HeaderChange) → i < length all → header ≡ get_or all i header → KeepsHeader listed config header before after
    → (before ≡ with_headers before.changes.headers first)
    × (headers_kept listed (drop i all) (carried_of config first) before.changes.headers ≡ whole)
    → (after ≡ with_headers after.changes.headers first)
    × (headers_kept listed (drop (i + 1) all) (carried_of config first) after.changes.headers ≡ whole)
header_more listed config all i header first before after whole within is keeps past =
    let kept = header_kept listed header (carried_of config before) before.changes.headers in
    let headers : after.changes.headers ≡ kept = ap (λ (state : State). state.changes.headers) keeps in
    let same : kept ≡ header_kept listed header (carried_of config first) before.changes.headers =
    ap (λ change. with_change header.name change before.changes.headers)
    (ap (λ state. change_on listed header.operation (carried_of config state)) past.0
    ∙ change_same listed config header.operation before.changes.headers first) in
    let front : drop i all ≡ header ∷ drop (i + 1) all = drop_more all i header within ∙ ap (λ one. one ∷ drop (i + 1) all) (sym is) in (
      keeps ∙ ap (with_headers kept) past.0 ∙ ap (λ now. with_headers now first) (sym headers),
      ap (headers_kept listed (drop (i + 1) all) (carried_of config first)) (headers ∙ same)
          ∙ ap (λ rest. headers_kept listed rest (carried_of config first) before.changes.headers) (sym front)
          ∙ past.1,
    )

pub kept_both : (listed : Listed) (config : ConfigParts) (rewrite : Rewrite) (first between last : State)
    → KeepsSomeHeaders listed config rewrite.headers first between → KeepsSomeUri listed config rewrite.uri between last
    → KeepsRewrite listed config rewrite first last
kept_both listed config rewrite first between last headers uri =
    let kept = all_kept listed rewrite.headers (carried_of config first) in
    let step : State → State = λ s. with_uri (path_kept listed rewrite.uri (carried_of config s)) (query_kept listed rewrite.uri (carried_of config s)) s in
    ap (carried_of config) (uri ∙ ap step headers)
    ∙ ap (λ path. carried_of config (with_uri path (query_kept listed rewrite.uri (carried_of config (with_headers kept first))) (with_headers kept first)))
    (path_same listed config rewrite.uri kept first)
    ∙ ap (λ query. carried_of config (with_uri (path_kept listed rewrite.uri (carried_of config first)) query (with_headers kept first)))
    (query_same listed config rewrite.uri kept first)
