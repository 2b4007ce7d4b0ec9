-- The next byte is another one, so the border of what was matched is tried next.
use Rattle.std.proofs.Common.{◌≡◌, ◌+◌, ◌-◌, ◌<◌, ◌≤◌, ℕ, slice_index_or, subst, sym, ap, ◌∙◌, arith}
use Rattle.text_match.specs.Borders.{folded_at, IsBorder}
use Rattle.text_match.proofs.BorderLemmas.{end_of_end, border_within}
use Rattle.text_match.proofs.needle.next_size.Goals as goal

pub loop-size-preserved : goal.loop-size-preserved
loop-size-preserved c =
    let piece = c.args.piece.now in let front : ℕ = c.loop-size.front in let start : ℕ = c.args.size in
    let inside : front ≤ start = c.loop-size.invariant.within in
    let border : ℕ = slice_index_or c.args.borders.now (front - 1) 0 in
    let place : front - 1 + 1 ≡ front = omega arith in
    let is : IsBorder piece front border = subst (λ n. IsBorder piece n border) place (c.requires.borders (front - 1) (omega arith)) in
    let below : border < front = is.shorter in
    let other : ¬ (folded_at piece front ≡ c.args.byte) = λ same.
    let equal : c.to_ascii_lowercase.result ≡ c.args.byte = c.to_ascii_lowercase.ensures.value ∙ same in absurd (omega (arith, equal)) in
    record {
      within = omega arith;
      ends = end_of_end piece start front border c.loop-size.invariant.ends is.is_end;
      bound = border_within piece start c.args.byte front border c.loop-size.invariant.ends c.loop-size.invariant.bound other is;
    }
