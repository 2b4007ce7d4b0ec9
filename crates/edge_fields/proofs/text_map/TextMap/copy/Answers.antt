use Rattle.std.proofs.Common.{◌≡◌, ◌<◌, length, take, get_or, None, ap, subst, ◌∙◌, arith, bytes_eq}
use Rattle.std.specs.List.{position_from}
use Rattle.std.specs.Map.{keys_of}
use Rattle.edge_fields.proofs.PlacesLemmas.{copied_apart}
use Rattle.edge_fields.proofs.text_map.TextMap.copy.Goals as goal

pub put-requires : goal.put-requires
put-requires c =
    let es = c.self.inside.entries.items in let i = c.loop-key.key-index in let entry = c.loop-key-item.result in
    let below : i < length es = omega arith in
    ap (λ key. position_from (bytes_eq key) 0 (keys_of c.loop-key.map)) c.in_ok-copy.ensures
    ∙ ap (λ map. position_from (bytes_eq entry.0) 0 (keys_of map)) c.loop-key.invariant
    ∙ subst (λ now. position_from (bytes_eq entry.0) 0 (keys_of (take i now)) ≡ None) c.self.view_is
    (copied_apart es i entry below (c.loop-key-item.is ∙ ap (λ items. get_or items i entry) c.deref-key-items.ensures.value) c.self.invariant.distinct)
