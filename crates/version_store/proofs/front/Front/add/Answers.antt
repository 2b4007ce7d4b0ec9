use Rattle.std.proofs.Common.{◌≡◌, ◌+◌, length, sym, ap, ◌∙◌}
use Rattle.version_store.proofs.Adding.{adds_moves}
use Rattle.version_store.proofs.front.Front.add.Goals as goal

pub compare_exchange-found-requires : goal.compare_exchange-found-requires
compare_exchange-found-requires g c =
    let head = c.requires.head in
    let seen = c.again-seen.ensures in
    let offer = c.plain-offer.ensures in
    let pen = c.no_pen-pen.ensures in
    let book : c.again-seen.result.book ≡ c.args.head.now.book = ap (λ s. s.book) seen ∙ (ap (λ p. p.book) c.self.view_is ∙ sym (ap (λ w. w.book) head)) in
    let long : length c.again-seen.result.log ≡ c.self.inside.count + 1 = ap (λ s. length s.log) seen ∙ sym c.self.invariant in (
      ap (λ w. w.tracked) head,
      book,
      pen.0 ∙ book,
      offer.0,
      rw (ap (λ w. w.key) head, pen.1, offer.3 ∙ c.requires.fresh) (adds_moves c.again-seen.result.log c.plain-offer.result.ask c.self.inside.count long),
    )
