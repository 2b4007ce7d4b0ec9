-- Each first split gives the next of the first takes, and the last piece the last of them.
use Rattle.std.proofs.Common.{◌≡◌, ◌+◌, ◌-◌, ◌<◌, [], ◌∷◌, ◌++◌, length, drop, length-take-le, refl, append_assoc, subst, sym, ap, ◌∙◌, arith}
use Rattle.text_match.specs.Splits.{HasTurns, AreFirstTurns}
use Rattle.text_match.proofs.TurnLemmas.{no_turns, not_at_end, first_at_end, drop_middle, drop_last, turns_forward, first_back}
use Rattle.text_match.proofs.wildcard.first_turns.Goals as goal

pub loop-piece-preserved : goal.loop-piece-preserved
loop-piece-preserved c =
    let strict = c.args.strict in let pieces = c.args.pieces.now in let i = c.loop-piece.piece-index in let piece = c.piece-item.result in
    let rest = c.loop-piece.rest.now in let before = c.in-Some.split.before.now in let after = c.in-Some.split.after.now in
    let size = length-take-le (length pieces - 1) pieces (omega arith) in
    let below : i < length pieces - 1 = omega arith in
    let is = drop_middle pieces i piece c.piece-item.result _ below refl c.piece-item.is in
    let pushed : c.push.new.self ≡ c.loop-piece.takes ++ before ∷ [] =
    c.in_ok-push-in-Some.ensures.ok ∙ ap (λ taken. c.loop-piece.takes ++ taken ∷ []) c.in_ok-of-in-Some.ensures in (
      λ more turns.
          subst (λ takes. AreFirstTurns strict pieces c.args.text.now takes)
          (sym (ap (λ takes. takes ++ more) pushed ∙ append_assoc c.loop-piece.takes (before ∷ []) more))
          (c.loop-piece.invariant.0 (before ∷ more) (first_back strict pieces i piece rest before after more below is c.in-Some.ensures turns)),
      λ has. turns_forward strict pieces i piece rest before after below is c.in-Some.ensures (c.loop-piece.invariant.1 has),
    )

pub returns-in-None : goal.returns-in-None
returns-in-None c =
    let pieces = c.args.pieces.now in let i = c.loop-piece.piece-index in let piece = c.piece-item.result in
    let size = length-take-le (length pieces - 1) pieces (omega arith) in
    let is = drop_middle pieces i piece c.piece-item.result _ (omega arith) refl c.piece-item.is in
    λ has. no_turns c.args.strict piece (drop (i + 1) pieces) c.loop-piece.rest.now c.in-None.ensures (subst (λ ps. HasTurns c.args.strict ps c.loop-piece.rest.now) is (c.loop-piece.invariant.1 has))

pub returns-in_ok-push-in-Some-before_end : goal.returns-in_ok-push-in-Some-before_end
returns-in_ok-push-in-Some-before_end c =
    let strict = c.args.strict in let pieces = c.args.pieces.now in let i = c.loop-piece.piece-index in let piece = c.bytes.result.now in
    let rest = c.loop-piece.rest.now in let taken = c.in-Some-before_end.taken.now in
    let size = length-take-le (length pieces - 1) pieces (omega arith) in
    let is = drop_last pieces i piece c.last-item.result _ (omega arith) c.bytes.ensures c.last-item.is in
    let pushed : c.push-in-Some-before_end.new.self ≡ c.loop-piece.takes ++ taken ∷ [] =
    c.in_ok-push-in-Some-before_end.ensures.ok ∙ ap (λ last. c.loop-piece.takes ++ last ∷ []) c.in_ok-of-in-Some-before_end.ensures in
    subst (λ takes. AreFirstTurns strict pieces c.args.text.now takes) (sym pushed)
    (c.loop-piece.invariant.0 (taken ∷ []) (subst (λ ps. AreFirstTurns strict ps rest (taken ∷ [])) (sym is) (first_at_end strict piece rest taken c.in-Some-before_end.ensures)))

pub returns-in-None-before_end : goal.returns-in-None-before_end
returns-in-None-before_end c =
    let pieces = c.args.pieces.now in let i = c.loop-piece.piece-index in let piece = c.bytes.result.now in
    let size = length-take-le (length pieces - 1) pieces (omega arith) in
    let is = drop_last pieces i piece c.last-item.result _ (omega arith) c.bytes.ensures c.last-item.is in
    λ has. not_at_end c.args.strict piece c.loop-piece.rest.now c.in-None-before_end.ensures (subst (λ ps. HasTurns c.args.strict ps c.loop-piece.rest.now) is (c.loop-piece.invariant.1 has))
