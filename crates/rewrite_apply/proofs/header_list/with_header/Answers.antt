-- The header goes where the first of its name was found, or to the end.
use Rattle.std.proofs.Common.{◌≡◌, [], ◌∷◌, ◌++◌, Some, None, position, take, drop, sym, ap, ◌∙◌, append_assoc}
use Rattle.edge_fields.specs.Fields.{has_name}
use Rattle.rewrite_apply.specs.Rewrites.{without}
use Rattle.rewrite_apply.proofs.RewriteLemmas.{set_at, set_at_end}
use Rattle.rewrite_apply.proofs.header_list.with_header.Goals as goal

pub returns-in_ok-append-in-Some : goal.returns-in_ok-append-in-Some
returns-in_ok-append-in-Some c =
    let headers = c.args.headers in let header = c.args.header in let at = c.in-Some.at in
    let found : position (has_name header.name) headers ≡ Some at =
    (λ j. position (has_name (sym c.bytes.ensures j)) (sym c.as_slice.ensures j)) ∙ sym c.in-Some.ensures in
    let front : c.in_ok-made-in-Some.made ≡ take at headers =
    c.in_ok-made-in-Some.ensures ∙ c.split_at.ensures.front ∙ ap (take at) c.as_slice-in-Some.ensures in
    let back : c.in_ok-others-in-Some.others ≡ without header.name (drop at headers) =
    c.in_ok-others-in-Some.ensures
    ∙ (λ j. without (c.bytes-in-Some.ensures j) ((c.split_at.ensures.back ∙ ap (drop at) c.as_slice-in-Some.ensures) j)) in
    let pushed : c.push.new.self ≡ take at headers ++ header ∷ [] =
    c.in_ok-push-in-Some.ensures.ok ∙ ap (λ made. made ++ header ∷ []) front in
    c.in_ok-append-in-Some.ensures
    ∙ (λ j. pushed j ++ back j)
    ∙ append_assoc (take at headers) (header ∷ []) (without header.name (drop at headers))
    ∙ set_at header at headers found

pub returns-in_ok-push-in-None : goal.returns-in_ok-push-in-None
returns-in_ok-push-in-None c =
    let headers = c.args.headers in let header = c.args.header in
    let none : position (has_name header.name) headers ≡ None =
    (λ j. position (has_name (sym c.bytes.ensures j)) (sym c.as_slice.ensures j)) ∙ sym c.in-None.ensures in
    c.in_ok-push-in-None.ensures.ok ∙ set_at_end header headers none
