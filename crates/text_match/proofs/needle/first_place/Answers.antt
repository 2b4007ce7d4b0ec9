-- Each byte of the text makes what was matched longer or shorter, and passes over no place.
use Rattle.std.proofs.Common.{◌≡◌, ◌+◌, ◌-◌, ◌<◌, ◌≤◌, ℕ, length, subst, sym, ap, ◌∙◌, arith}
use Rattle.text_match.specs.Borders.{folded_at, IsNext, IsFirstPlace}
use Rattle.text_match.proofs.BorderLemmas.{IsMatched, next_bound, matched_more, found_here, found_nowhere}
use Rattle.text_match.proofs.needle.first_place.Goals as goal

pub returns-then-size-piece : goal.returns-then-size-piece
returns-then-size-piece c =
    let piece = c.args.piece.now in let text = c.args.text.now in let i : ℕ = c.loop-byte.byte-index in
    let size : ℕ = c.loop-byte.size in let next : ℕ = c.next_size-size.result in
    let byte : c.to_ascii_lowercase.result ≡ folded_at text i = c.to_ascii_lowercase.ensures.value in
    let goes : IsNext piece size (folded_at text i) next = subst (λ b. IsNext piece size b next) byte c.next_size-size.ensures in
    let inside : i < length text = omega arith in
    let whole : next ≡ length piece = omega arith in
    subst (λ n. IsFirstPlace piece text (n + 1 - next)) (sym c.loop-byte.invariant.counted) (found_here piece text i size next c.loop-byte.invariant.matched goes inside whole)

pub loop-byte-preserved : goal.loop-byte-preserved
loop-byte-preserved c =
    let piece = c.args.piece.now in let text = c.args.text.now in let i : ℕ = c.loop-byte.byte-index in
    let size : ℕ = c.loop-byte.size in let next : ℕ = c.next_size-size.result in
    let byte : c.to_ascii_lowercase.result ≡ folded_at text i = c.to_ascii_lowercase.ensures.value in
    let goes : IsNext piece size (folded_at text i) next = subst (λ b. IsNext piece size b next) byte c.next_size-size.ensures in
    let up : next ≤ size + 1 = next_bound piece size (folded_at text i) next goes in
    let inside : size < length piece = c.loop-byte.invariant.matched.shorter in
    let short : next < length piece = omega arith in
    record {
      counted = ap (λ n. n + 1) c.loop-byte.invariant.counted;
      matched = matched_more piece text i size next c.loop-byte.invariant.matched goes short;
    }

pub returns : goal.returns
returns c =
    let piece = c.args.piece.now in let text = c.args.text.now in
    let all : c.loop-byte.byte-index ≡ length text = omega arith in
    found_nowhere piece text c.loop-byte.size (subst (λ n. IsMatched piece text n c.loop-byte.size) all c.loop-byte.invariant.matched)
