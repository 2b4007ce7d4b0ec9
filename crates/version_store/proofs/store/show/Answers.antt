use Rattle.std.proofs.Common.{◌≡◌, List, [], ◌∷◌, ◌++◌, drop, fold, true, false, sym, ap, ◌∙◌, Some}
use Rattle.core.specs.Result.{is_ok, is_err}
use Rattle.left_right.specs.Sides.{view}
use Rattle.version_store.specs.declared.deployed.Deployed.{Deployed}
use Rattle.version_store.specs.Books.{Page}
use Rattle.version_store.proofs.Ruled.{shows, last_applied, ok_part, ok_by_no_err}
use Rattle.version_store.proofs.store.show.Goals as goal

pub publish_as-writer-requires : goal.publish_as-writer-requires
publish_as-writer-requires g c next is =
    let now = c.append.new.self in
    let same_desk : now.desk ≡ c.args.writer.desk = c.append.ensures.desk in
    let no_err : is_err c.append.result ≡ false = sym c.is_err.ensures.value ∙ c.if-is_err.false in
    let pending : drop now.behind now.log.items ≡ drop c.args.writer.behind c.args.writer.log.items ++ c.args.next ∷ [] = ok_by_no_err _ c.append.result no_err c.append.ensures.pending in
    let shown : next.front ≡ c.args.next.front =
    is ∙ (ap (λ (ops : List Deployed). fold (λ (before : Page) (d : Deployed). d.front) now.desk.shown.value.front ops) pending ∙ last_applied now.desk.shown.value.front (drop c.args.writer.behind c.args.writer.log.items) c.args.next) in
    shows _ _ now.desk.shown.value next (ap (λ (page : Page). page.book) shown ∙ (c.requires ∙ sym (ap (λ d. d.shown.value.front.book) same_desk)))

pub returns-clause-shown : goal.returns-clause-shown
returns-clause-shown g c = λ _.
    let now = c.append.new.self in
    let after = c.publish_as-writer.result.0 in
    let no_err : is_err c.append.result ≡ false = sym c.is_err.ensures.value ∙ c.if-is_err.false in
    let pending : drop now.behind now.log.items ≡ drop c.args.writer.behind c.args.writer.log.items ++ c.args.next ∷ [] = ok_by_no_err _ c.append.result no_err c.append.ensures.pending in
    let done : is_ok c.publish_as-writer.result.1 ≡ true = c.publish_as-writer.ensures.succeeds tt in
    let value : after.desk.shown.value.front ≡ c.args.next.front =
    (ok_part _ c.publish_as-writer.result.1 done c.publish_as-writer.ensures.values).0 ∙ (ap (λ (ops : List Deployed). fold (λ (before : Page) (d : Deployed). d.front) now.desk.shown.value.front ops) pending ∙ last_applied now.desk.shown.value.front (drop c.args.writer.behind c.args.writer.log.items) c.args.next) in
    let known : view after.desk.place ≡ Some after.desk.shown.value.front = ok_part _ c.publish_as-writer.result.1 done c.publish_as-writer.ensures.rule in
    (known ∙ ap Some value, value)

pub returns-clause-known : goal.returns-clause-known
returns-clause-known g c = λ refused. absurd (refused (c.is_ok.ensures.value ∙ c.publish_as-writer.ensures.succeeds tt))

pub returns-clause-stays : goal.returns-clause-stays
returns-clause-stays g c = λ refused. absurd (refused (c.is_ok.ensures.value ∙ c.publish_as-writer.ensures.succeeds tt))
