use Rattle.std.proofs.Common.{◌≡◌, ◌<◌, [], ◌∷◌, ◌++◌, List, ℕ, Some, None, slice_set, sym, ap, subst, ◌∙◌, bytes_eq}
use Rattle.std.specs.List.{position_from}
use Rattle.std.specs.Map.{keys_of}
use Rattle.edge_fields.specs.Maps.{with_value}
use Rattle.edge_fields.specs.Places.{ArePlaces}
use Rattle.edge_fields.proofs.PlacesLemmas.{place_of, keys_set, put_last}
use Rattle.edge_fields.proofs.text_map.TextMap.add.Goals as goal

pub index_mut-requires : goal.index_mut-requires
index_mut-requires c =
    let es = c.self.inside.entries in
    let found : position_from (bytes_eq c.args.key) 0 (keys_of es.items) ≡ Some c.in-Some.at =
    (λ j. position_from (bytes_eq (sym c.bytes.ensures j)) 0 (keys_of (c.self.view_is j))) ∙ sym c.in-Some.ensures in
    subst (λ n. c.in-Some.at < n) (sym es.ok.0) (place_of c.args.key [] c.in-Some.at es.items found).below

pub invariant_of-self-in-Some-1 : goal.invariant_of-self-in-Some-1
invariant_of-self-in-Some-1 c =
    let es = c.self.inside.entries in
    let found : position_from (bytes_eq c.args.key) 0 (keys_of es.items) ≡ Some c.in-Some.at =
    (λ j. position_from (bytes_eq (sym c.bytes.ensures j)) 0 (keys_of (c.self.view_is j))) ∙ sym c.in-Some.ensures in
    let below = (place_of c.args.key [] c.in-Some.at es.items found).below in
    let entry = c.index_mut.result.now in
    subst (λ keys. ArePlaces keys c.self.inside.places) (sym (keys_set es.items c.in-Some.at entry entry c.push.new.self c.index_mut.ensures.value below)) c.self.invariant

pub returns-in_ok-push-in-Some-clause-ok : goal.returns-in_ok-push-in-Some-clause-ok
returns-in_ok-push-in-Some-clause-ok c =
    let es = c.self.inside.entries in
    let key = c.args.key in let value = c.args.value in
    let found : position_from (bytes_eq key) 0 (keys_of es.items) ≡ Some c.in-Some.at =
    (λ j. position_from (bytes_eq (sym c.bytes.ensures j)) 0 (keys_of (c.self.view_is j))) ∙ sym c.in-Some.ensures in
    let entry : List ℕ × List (List ℕ) = c.index_mut.result.now in
    ap (λ texts. slice_set es.items c.in-Some.at (entry.0, texts)) c.in_ok-push-in-Some.ensures.ok
    ∙ ap (λ (e : List ℕ × List (List ℕ)). slice_set es.items c.in-Some.at (e.0, e.1 ++ value ∷ [])) c.index_mut.ensures.value
    ∙ (place_of key value c.in-Some.at es.items found).written entry
    ∙ ap (λ entries. with_value entries key value) c.self.view_is

pub returns-in_ok-put-in-None-clause-ok : goal.returns-in_ok-put-in-None-clause-ok
returns-in_ok-put-in-None-clause-ok c =
    let key = c.args.key in let value = c.args.value in let now = c.args.self.now in
    let none : position_from (bytes_eq key) 0 (keys_of now) ≡ None =
    ap (λ k. position_from (bytes_eq k) 0 (keys_of now)) (sym c.bytes.ensures) ∙ sym c.in-None.ensures in
    c.in_ok-put-in-None.ensures.ok
    ∙ ap (λ values. now ++ (key, values) ∷ []) (c.in_ok-push-in-None.ensures.ok ∙ ap (λ values. values ++ value ∷ []) c.new-values.ensures)
    ∙ put_last key value now none
