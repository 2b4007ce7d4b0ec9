use Rattle.std.proofs.Common.{◌≡◌, ◌<◌, [], List, ℕ, Some, None, sym, ap, subst, ◌∙◌, bytes_eq}
use Rattle.std.specs.List.{position_from}
use Rattle.std.specs.Map.{keys_of, lookup}
use Rattle.edge_fields.proofs.PlacesLemmas.{place_of, nothing_found}
use Rattle.edge_fields.proofs.text_map.TextMap.get.Goals as goal

pub index-requires : goal.index-requires
index-requires c =
    let es = c.self.inside.entries in
    let found : position_from (bytes_eq c.args.key.now) 0 (keys_of es.items) ≡ Some c.in-Some.at =
    (λ j. position_from (bytes_eq (sym c.bytes.ensures j)) 0 (keys_of (c.self.view_is j))) ∙ sym c.in-Some.ensures in
    subst (λ n. c.in-Some.at < n) (sym es.ok.0) (place_of c.args.key.now [] c.in-Some.at es.items found).below

pub returns-in-Some : goal.returns-in-Some
returns-in-Some c =
    let es = c.self.inside.entries in
    let found : position_from (bytes_eq c.args.key.now) 0 (keys_of es.items) ≡ Some c.in-Some.at =
    (λ j. position_from (bytes_eq (sym c.bytes.ensures j)) 0 (keys_of (c.self.view_is j))) ∙ sym c.in-Some.ensures in
    ap (λ (entry : List ℕ × List (List ℕ)). Some entry.1) c.index.ensures
    ∙ sym ((place_of c.args.key.now [] c.in-Some.at es.items found).value c.index.result.now)
    ∙ ap (lookup (bytes_eq c.args.key.now)) c.self.view_is

pub returns-in-None : goal.returns-in-None
returns-in-None c =
    let none : position_from (bytes_eq c.args.key.now) 0 (keys_of c.args.self.now) ≡ None =
    ap (λ key. position_from (bytes_eq key) 0 (keys_of c.args.self.now)) (sym c.bytes.ensures) ∙ sym c.in-None.ensures in
    sym (nothing_found c.args.key.now c.args.self.now none)
