use Rattle.std.proofs.Common.{sym, ap, ◌∙◌, bytes_eq}
use Rattle.std.specs.List.{position_from}
use Rattle.std.specs.Map.{keys_of}
use Rattle.edge_fields.proofs.PlacesLemmas.{put_places, ok_holds}
use Rattle.edge_fields.proofs.text_map.TextMap.put.Goals as goal

pub invariant_of-self-else-is_err : goal.invariant_of-self-else-is_err
invariant_of-self-else-is_err c =
    let es = c.self.inside.entries in
    put_places es.items c.push.new.self.items c.args.key c.args.texts c.in_ok-name.name c.len-place.result c.self.inside.places c.insert.new.self
    c.self.invariant
    (c.in_ok-name.ensures.items ∙ c.bytes.ensures)
    (c.len-place.ensures ∙ es.ok.0)
    (ap (λ entries. position_from (bytes_eq c.args.key) 0 (keys_of entries)) c.self.view_is ∙ c.requires)
    (ok_holds c.insert.result _ (sym c.is_err.ensures.value ∙ c.if-is_err.false) c.insert.ensures.updates)
    c.in_ok-push.ensures.items
