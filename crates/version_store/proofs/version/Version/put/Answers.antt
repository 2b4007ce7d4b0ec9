use Rattle.std.proofs.Common.{◌≡◌, ◌+◌, [], ◌∷◌, ◌++◌, ap, ◌∙◌, sym, subst, List}
use Rattle.std.specs.Arc.{arc_value}
use Rattle.version_store.specs.declared.notice.Notice.{Notice}
use Rattle.version_store.specs.declared.notice.Notice.TheVariants.{Put}
use Rattle.version_store.specs.Notices.{IsVersion}
use Rattle.version_store.proofs.NoticeLemmas.{version_put}
use Rattle.version_store.proofs.version.Version.put.Goals as goal

pub invariant_of-result-clause-stands : goal.invariant_of-result-clause-stands
invariant_of-result-clause-stands c =
    let now = c.args.self.now in
    let config = arc_value c.in_ok-config.config in
    let put : c.add.new.self.notices ≡ now.front.notices ++ Put config ∷ [] =
    ap (λ p. p.notices) c.if-not-add.ensures ∙ (ap (λ p. p.notices ++ Put c.deref.result.now ∷ []) c.in_ok-front.ensures.front ∙ ap (λ x. now.front.notices ++ Put x ∷ []) c.deref.ensures) in
    subst (λ (notices : List Notice). IsVersion notices (now.number + 1) now.stopped config) (sym put) (version_put now.front.notices now.number now.stopped (arc_value now.config) config now.stands)
