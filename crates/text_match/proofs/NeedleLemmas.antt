-- The places of a piece in a text are the splits of the text at the piece, with ASCII case ignored.
use Rattle.std.proofs.Common.{◌≡◌, ℕ, ◌+◌, ◌-◌, ◌<◌, ◌≤◌, false, List, ◌++◌, map, length, take, drop, get_or, get_or-take, sym, ap, ◌∙◌, arith, length-take-le, length-drop, take-append-drop, drop-drop}
use Rattle.std.proofs.Math.ListN.{get_or-map}
use Rattle.std.proofs.lemmas.List.{length-map, get_or_append_left, get_or-append-add, get_or-drop, ext_get_or}
use Rattle.std.specs.Char.{to_ascii_lowercase}
use Rattle.text_match.specs.Borders.{folded_at, IsPlace, IsNoPlace, IsFirstPlace}
use Rattle.text_match.specs.Splits.{IsNowhere, IsFirstSplit}
use Rattle.text_match.specs.Wildcards.{IsSplit}
use Rattle.text_match.proofs.SplitLemmas.{compared-length, split-length}

module _ (piece text : List ℕ) where
  -- a byte of a text in lower case
  folded : (xs : List ℕ) (k : ℕ) → get_or (map to_ascii_lowercase xs) k (to_ascii_lowercase 0) ≡ folded_at xs k
  folded xs k = get_or-map to_ascii_lowercase xs k 0

  pub split_place : (before after : List ℕ) → IsSplit false piece text before after → IsPlace piece text (length before)
  split_place before after split =
      let long = split-length false piece text before after split in
      let same : length split.found ≡ length piece = compared-length false split.found piece split.is_piece in
      record {
        within = omega (arith, long);
        same = λ k below.
            let inside : k < length split.found = omega (arith, below, same) in
            sym (folded piece k)
            ∙ ap (λ xs. get_or xs k (to_ascii_lowercase 0)) (sym split.is_piece)
            ∙ folded split.found k
            ∙ ap to_ascii_lowercase (
            sym (get_or_append_left split.found after 0 k inside)
            ∙ sym (get_or-append-add before (split.found ++ after) k 0)
            ∙ ap (λ xs. get_or xs (length before + k) 0) (sym split.is_text));
      }

  pub place_split : (at : ℕ) → IsPlace piece text at → IsSplit false piece text (take at text) (drop (at + length piece) text)
  place_split at place = record {
    found = found;
    is_text = sym (take-append-drop at text) ∙ ap (λ rest. take at text ++ rest) (sym (take-append-drop (length piece) (drop at text)) ∙ ap (λ rest. found ++ rest) (drop-drop (length piece) at text));
    is_piece = ext_get_or (to_ascii_lowercase 0) (map to_ascii_lowercase found) (map to_ascii_lowercase piece) (length-map found to_ascii_lowercase ∙ long ∙ sym (length-map piece to_ascii_lowercase)) (λ k below. same k (omega (arith, below, length-map found to_ascii_lowercase, long)));
  }
    where
      found : List ℕ
      found = take (length piece) (drop at text)

      long : length (take (length piece) (drop at text)) ≡ length piece
      long = length-take-le (length piece) (drop at text) (omega (arith, length-drop at text, place.within))

      same : (k : ℕ) → k < length piece → get_or (map to_ascii_lowercase (take (length piece) (drop at text))) k (to_ascii_lowercase 0) ≡ get_or (map to_ascii_lowercase piece) k (to_ascii_lowercase 0)
      same k below =
          folded (take (length piece) (drop at text)) k
          ∙ ap to_ascii_lowercase (get_or-take (length piece) (drop at text) k 0 below ∙ get_or-drop at text k 0)
          ∙ sym (place.same k below)
          ∙ sym (folded piece k)

  pub first_split : (at : ℕ) → IsFirstPlace piece text at → IsFirstSplit false piece text (take at text) (drop (at + length piece) text)
  first_split at first = record {
    is_split = place_split at first.is_place;
    is_first = λ others more split.
        let low : at ≤ length others = first.first (length others) (split_place others more split) in
        let inside : at + length piece ≤ length text = first.is_place.within in
        let long = length-take-le at text (omega arith) in
        omega (arith, low, long);
  }

  pub no_split : IsNoPlace piece text → IsNowhere false piece text
  no_split none before after split = none (length before) (split_place before after split)

  -- a piece without a byte stands at the front
  pub empty_place : length piece ≡ 0 → IsFirstPlace piece text 0
  empty_place empty = record {
    is_place = record {
      within = omega (arith, empty);
      same = λ k below. absurd (omega (arith, below, empty));
    };
    first = λ other place. omega arith;
  }
