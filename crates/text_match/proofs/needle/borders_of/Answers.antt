-- Each border goes on from the last.
use Rattle.std.proofs.Common.{◌≡◌, ◌+◌, ◌-◌, ◌<◌, ◌∷◌, [], ℕ, drop, get_or, get_or-take, length, length-append, subst, sym, ap, ◌∙◌, arith}
use Rattle.std.proofs.lemmas.List.{get_or-drop}
use Rattle.std.specs.Char.{to_ascii_lowercase}
use Rattle.text_match.specs.Borders.{folded_at, IsBorder, AreBorders, IsNext}
use Rattle.text_match.proofs.BorderLemmas.{border_next, borders_push}
use Rattle.text_match.proofs.needle.borders_of.Goals as goal

pub loop-byte-preserved : goal.loop-byte-preserved
loop-byte-preserved c =
    let piece = c.args.piece.now in let i : ℕ = c.loop-byte.byte-index in
    let size : ℕ = c.loop-byte.size in let next : ℕ = c.next_size-size.result in let known = c.loop-byte.borders.items in
    let many = c.loop-byte.invariant.as_many in
    let inside : i < length piece - 1 = omega arith in
    let place : 1 + i ≡ i + 1 = omega arith in
    let byte : c.to_ascii_lowercase.result ≡ folded_at piece (i + 1) =
    c.to_ascii_lowercase.ensures.value ∙ ap to_ascii_lowercase (get_or-take (length piece - 1) (drop 1 piece) i 0 inside ∙ get_or-drop 1 piece i 0 ∙ ap (λ n. get_or piece n 0) place) in
    let goes : IsNext piece size (folded_at piece (i + 1)) next = subst (λ b. IsNext piece size b next) byte c.next_size-size.ensures in
    let last : IsBorder piece (i + 1 + 1) next = border_next piece (i + 1) size next c.loop-byte.invariant.last goes in
    record {
      as_many = ap length c.in_ok-push-2.ensures.items ∙ length-append known (next ∷ []) ∙ ap (λ n. n + 1) many;
      known = subst (AreBorders piece) (sym c.in_ok-push-2.ensures.items) (borders_push piece known next c.loop-byte.invariant.known (subst (λ n. IsBorder piece (n + 1) next) (sym many) last));
      last = last;
    }
