-- Splits of a text at a piece: their lengths, and the first of them.
use Rattle.std.proofs.Common.{◌≡◌, ℕ, ◌+◌, ◌-◌, ◌<◌, ◌≤◌, Bool, true, false, List, [], ◌++◌, Some, None, length, take, drop, refl, sym, ap, subst, ◌∙◌, arith, ⊎_elim, length-append, length-drop, length-take-le, take-append-drop, drop-drop}
use Rattle.std.proofs.lemmas.List.{length-map}
use Rattle.std.proofs.Math.Seq.{take-length, take-append_seam, drop-append_seam}
use Rattle.std.proofs.lemmas.Bool.{cases_lt}
use Rattle.std.specs.Char.{to_ascii_lowercase}
use Rattle.memchr.specs.Find.{OccursAt, FindsNeedle}
use Rattle.memchr.proofs.lemmas.MatchLemmas.{OccursAt-split, OccursAt-from_part}
use Rattle.text_match.specs.Splits.{IsNowhere, IsFirstSplit}
use Rattle.text_match.specs.Wildcards.{compared, IsSplit}

-- what compares equal is as long
pub compared-length : (strict : Bool) (xs ys : List ℕ) → compared strict xs ≡ compared strict ys → length xs ≡ length ys
compared-length true xs ys same = ap length same
compared-length false xs ys same = sym (length-map xs to_ascii_lowercase) ∙ ap length same ∙ length-map ys to_ascii_lowercase

-- a text behind its front
pub drop_front : (front rest text : List ℕ) → text ≡ front ++ rest → drop (length front) text ≡ rest
drop_front front rest text is = ap (drop (length front)) is ∙ drop-append_seam front rest

pub take_front : (front rest text : List ℕ) → text ≡ front ++ rest → take (length front) text ≡ front
take_front front rest text is = ap (take (length front)) is ∙ take-append_seam front rest

module _ (strict : Bool) (piece text : List ℕ) where
  -- how long the parts of a split are
  pub split-length : (before after : List ℕ) → IsSplit strict piece text before after → length text ≡ length before + (length piece + length after)
  split-length before after split =
      let same = compared-length strict split.found piece split.is_piece in
      omega (arith, ap length split.is_text, length-append before (split.found ++ after), length-append split.found after, same)

  -- a split, seen from where its piece begins
  pub split_here : (before after : List ℕ) → IsSplit strict piece text before after → IsSplit strict piece (drop (length before) text) [] after
  split_here before after split = record {
    found = split.found;
    is_text = drop_front before (split.found ++ after) text split.is_text;
    is_piece = split.is_piece;
  }

  -- and back
  pub split_there : (at : ℕ) (after : List ℕ) → IsSplit strict piece (drop at text) [] after → IsSplit strict piece text (take at text) after
  split_there at after split = record {
    found = split.found;
    is_text = sym (take-append-drop at text) ∙ ap (λ rest. take at text ++ rest) split.is_text;
    is_piece = split.is_piece;
  }

  -- what stands after the piece
  pub split-after : (before after : List ℕ) → IsSplit strict piece text before after → after ≡ drop (length before + length piece) text
  split-after before after split =
      let rest = drop_front before (split.found ++ after) text split.is_text in
      let same : length piece ≡ length split.found = sym (compared-length strict split.found piece split.is_piece) in
      sym (drop_front split.found after (drop (length before) text) rest)
      ∙ drop-drop (length split.found) (length before) text
      ∙ ap (λ n. drop (length before + n) text) (sym same)

  -- the piece isn't here, so its places are further on
  pub further_on : (at : ℕ) → ((before after : List ℕ) → IsSplit strict piece text before after → at ≤ length before) → ((after : List ℕ) → ¬ (IsSplit strict piece (drop at text) [] after)) → (before after : List ℕ) → IsSplit strict piece text before after → at + 1 ≤ length before
  further_on at so_far none before after split =
      let low = so_far before after split in
      ⊎_elim (λ (above : at < length before). let goes : at + 1 ≤ length before = omega arith in goes)
      (λ (up_to : length before ≤ at).
      let here : length before ≡ at = omega arith in
      absurd (none after (subst (λ n. IsSplit strict piece (drop n text) [] after) here (split_here before after split))))
      (cases_lt at (length before))

  -- the piece is here, and stands nowhere before
  pub first_here : (at : ℕ) (after : List ℕ) → at ≤ length text → ((before after : List ℕ) → IsSplit strict piece text before after → at ≤ length before) → IsSplit strict piece (drop at text) [] after → IsFirstSplit strict piece text (take at text) after
  first_here at after within so_far here = record {
    is_split = split_there at after here;
    is_first = λ others more split. let low = so_far others more split in let long = length-take-le at text within in omega arith;
  }

  -- the places are beyond the end, so there is none
  pub nowhere_beyond : ((before after : List ℕ) → IsSplit strict piece text before after → length text + 1 ≤ length before) → IsNowhere strict piece text
  nowhere_beyond beyond before after split =
      let high = beyond before after split in let long = split-length before after split in absurd (omega arith)

-- a split where case counts is an occurrence of the piece
split_occurs : (piece text before after : List ℕ) → IsSplit true piece text before after → OccursAt text piece (length before)
split_occurs piece text before after split =
    let long = split-length true piece text before after split in
    let part : take (length piece) (drop (length before) text) ≡ piece =
    ap (λ n. take n (drop (length before) text)) (sym (ap length split.is_piece))
    ∙ ap (take (length split.found)) (drop_front before (split.found ++ after) text split.is_text)
    ∙ take-append_seam split.found after
    ∙ split.is_piece in
    OccursAt-from_part text piece (length before) (omega arith) part

-- no occurrence, so no split
pub exact_none : (piece text : List ℕ) → FindsNeedle text piece 0 None → IsNowhere true piece text
exact_none piece text none before after split =
    let long = split-length true piece text before after split in
    none (length before) (omega arith) (omega arith) (split_occurs piece text before after split)

-- the first occurrence is the first split
pub exact_first : (piece text : List ℕ) (at : ℕ) → FindsNeedle text piece 0 (Some at) → IsFirstSplit true piece text (take at text) (drop (at + length piece) text)
exact_first piece text at finds = record {
  is_split = record {
    found = piece;
    is_text = sym (take-append-drop at text) ∙ ap (λ rest. take at text ++ rest) (OccursAt-split text piece at finds.1);
    is_piece = refl;
  };
  is_first = λ others more split.
      let fits = finds.1.fits in
      let long = length-take-le at text (omega arith) in
      ⊎_elim (λ (below : length others < at). absurd (finds.0.before (length others) (omega arith) below (split_occurs piece text others more split)))
      (λ (up : at ≤ length others). let goes : length (take at text) ≤ length others = omega arith in goes)
      (cases_lt (length others) at);
}

-- the rest of a text, as a slice up to its end reads it
pub take_rest : (n : ℕ) (text : List ℕ) → take (length text - n) (drop n text) ≡ drop n text
take_rest n text = ap (λ m. take m (drop n text)) (sym (length-drop n text)) ∙ take-length (drop n text)
