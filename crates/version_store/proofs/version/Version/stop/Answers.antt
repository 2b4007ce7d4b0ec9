use Rattle.std.proofs.Common.{◌≡◌, true, [], ◌∷◌, ◌++◌, ap, ◌∙◌, sym, subst, List}
use Rattle.std.specs.Arc.{arc_value}
use Rattle.version_store.specs.declared.notice.Notice.{Notice}
use Rattle.version_store.specs.declared.notice.Notice.TheVariants.{Stop}
use Rattle.version_store.specs.Notices.{IsVersion}
use Rattle.version_store.proofs.NoticeLemmas.{version_stop}
use Rattle.version_store.proofs.version.Version.stop.Goals as goal

pub invariant_of-result-clause-stands : goal.invariant_of-result-clause-stands
invariant_of-result-clause-stands c =
    let now = c.args.self.now in
    let config = arc_value c.in_ok-config.config in
    let same : config ≡ arc_value now.config = c.in_ok-config.ensures in
    let stopped : c.add.new.self.notices ≡ now.front.notices ++ Stop ∷ [] = ap (λ p. p.notices) c.if-not-add.ensures ∙ ap (λ p. p.notices ++ Stop ∷ []) c.in_ok-front.ensures.front in
    let before : IsVersion now.front.notices now.number now.stopped config = subst (λ held. IsVersion now.front.notices now.number now.stopped held) (sym same) now.stands in
    subst (λ (notices : List Notice). IsVersion notices now.number true config) (sym stopped) (version_stop now.front.notices now.number now.stopped config before)
