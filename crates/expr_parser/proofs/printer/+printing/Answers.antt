use Rattle.std.proofs.Common.{◌≡◌, ◌++◌, map, take, ap, ◌∙◌, sym, append-nil}
use Rattle.expr_parser.specs.Spelling.{spelling_at}
use Rattle.expr_parser.proofs.SpellingLaws.{joint_behind, behind_none, behind_some, joined-take_more}
use Rattle.expr_parser.proofs.printer.+printing.Goals as goal
use Rattle.expr_parser.proofs.printer.+printing.Goals.{push_joined-then-at-gt0+in_ok-push, push_joined-else-at-gt0}

pub push_joined-loop-at-preserved : goal.push_joined-loop-at-preserved
push_joined-loop-at-preserved t c =
    let at = c.loop-at.at in
    let members = c.args.members.now in
    let joint = c.args.joint.now in
    let mid : c.if-at-gt0.out ≡ c.loop-at.out ++ joint_behind joint (map spelling_at (take at members)) =
    elim c.if-at-gt0.branch [
      | push_joined-then-at-gt0+in_ok-push w ↦ w.out-is ∙ w.in_ok-push.ensures.ok
          ∙ ap (λ v. c.loop-at.out ++ v) (sym (behind_some joint members at w.if-at-gt0.true c.loop-at-test.true))
      | push_joined-else-at-gt0 w ↦ w.out-is ∙ sym (append-nil c.loop-at.out) ∙ ap (λ v. c.loop-at.out ++ v) (sym (behind_none joint members at w.if-at-gt0.false))
    ] in
    joined-take_more joint c.args.tightness members at c.index-members-at.result _ _ _ _ c.loop-at-test.true c.index-members-at.is c.loop-at.invariant mid c.in_ok-push_expr.ensures
