use Rattle.std.proofs.Common.{◌≡◌, ◌+◌, [], ◌∷◌, ◌++◌, length, length-append, arith, ap, subst, sym, ◌∙◌}
use Rattle.std.proofs.lemmas.List.Elements.{All-append, All-cons, All-nil}
use Rattle.std.specs.List.{All}
use Rattle.version_store.specs.Books.{Page, Opens}
use Rattle.version_store.proofs.versions.readers_of.Goals as goal

pub loop-preserved : goal.loop-preserved
loop-preserved c =
    let before = c.loop.invariant in
    let page = c.args.deployer.now in
    let readers = c.loop.readers.items in
    let reader = c.in_ok-reader.reader in
    let items : c.push.new.self.items ≡ readers ++ reader ∷ [] = c.in_ok-push.ensures.items in
    let opens : Opens page reader = subst (λ (known : Page). Opens known reader) before.0 c.in_ok-reader.ensures.opens in (
      c.reader.ensures.stays ∙ before.0,
      omega (arith, ap length items, length-append readers (reader ∷ []), before.1),
      subst (All (Opens page)) (sym items) (All-append (Opens page) readers (reader ∷ []) before.2 (All-cons (Opens page) reader [] opens (All-nil (Opens page)))),
    )
