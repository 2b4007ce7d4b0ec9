-- Parts of a list of bytes, as the buffer of a line reader holds them.
use Rattle.std.proofs.Common.{◌≡◌, ℕ, suc, ◌+◌, ◌-◌, ◌^◌, ◌<◌, ◌≤◌, List, ◌∷◌, ◌++◌, length, take, drop, slice_range, Some, None, sym, ap, ap₂, subst, ◌∙◌, arith, take-add, take-take, take_at, drop-drop, drop-cons, take-append-drop, get_or-take, eq-eqb, eqb-true, zero-le, length-take}
use Rattle.std.proofs.lemmas.Slice.{between_is}
use Rattle.std.proofs.lemmas.List.{drop-take}
use Rattle.std.proofs.lemmas.List.Edits.{between_none, length-between}
use Rattle.memchr.specs.Find.{IsFirstByte, is_byte}
use Rattle.edge_outside.specs.Lines.{NoNewline}
use Rattle.edge_outside.specs.Held.{Held, Cut}
use Rattle.edge_outside.proofs.LinesLemmas.{NoNewline-append}

-- a part up to a place in it, and the part from there on
pub slice_range-split : (xs : List ℕ) (from at to : ℕ) → from ≤ at → at ≤ to
    → slice_range xs from to ≡ slice_range xs from at ++ slice_range xs at to
slice_range-split xs from at to low high =
    let size : to - from ≡ (at - from) + (to - at) = omega arith in
    let place : from + (at - from) ≡ at = omega arith in
    ap (λ n. take n (drop from xs)) size ∙ take-add (at - from) (to - at) (drop from xs)
    ∙ ap (λ l. slice_range xs from at ++ take (to - at) l) (drop-drop (at - from) from xs ∙ ap (λ n. drop n xs) place)

-- a part without its front
pub drop-slice_range : (xs : List ℕ) (from to count : ℕ) → from + count ≤ to
    → drop count (slice_range xs from to) ≡ slice_range xs (from + count) to
drop-slice_range xs from to count inside =
    let parts : to - from ≡ count + (to - (from + count)) = omega arith in
    ap (λ n. drop count (take n (drop from xs))) parts ∙ drop-take count _ (drop from xs)
    ∙ ap (take (to - (from + count))) (drop-drop count from xs)

-- the front of a part
pub take-slice_range : (xs : List ℕ) (from to count : ℕ) → from + count ≤ to
    → take count (slice_range xs from to) ≡ slice_range xs from (from + count)
take-slice_range xs from to count inside =
    let size : count ≡ from + count - from = omega arith in
    take-take count (to - from) (drop from xs) (omega arith) ∙ ap (λ n. take n (drop from xs)) size

-- a part of what two lists share
pub slice_range-shared : (xs ys : List ℕ) (at from to : ℕ) → take at ys ≡ take at xs → to ≤ at
    → slice_range ys from to ≡ slice_range xs from to
slice_range-shared xs ys at from to same within =
    between_is ys from to ∙ ap (drop from) (sym (take-take to at ys within) ∙ ap (take to) same ∙ take-take to at xs within)
    ∙ sym (between_is xs from to)

-- the bytes before the first newline have none
NoNewline-before : (bytes : List ℕ) (at : ℕ) → IsFirstByte (is_byte 10) bytes (Some at) → NoNewline (take at bytes)
NoNewline-before bytes at first k lt is =
    let before : k < at = omega (arith, length-take at bytes) in
    first.0.before k zero-le before (eq-eqb _ 10 (sym (get_or-take at bytes k 0 before) ∙ is))

-- bytes in which no newline is found have none
NoNewline-nowhere : (bytes : List ℕ) → IsFirstByte (is_byte 10) bytes None → NoNewline bytes
NoNewline-nowhere bytes nowhere k lt is = nowhere k zero-le lt (eq-eqb _ 10 is)

-- the parts of a buffer
abbrev pub held : List ℕ → ℕ → ℕ → ℕ → ℕ → ℕ → Held
held bytes line_from line_to from looked to = record {
  line = slice_range bytes line_from line_to;
  begun = slice_range bytes from looked;
  rest = slice_range bytes looked to;
}

-- a newline was found
pub cut-found : (bytes : List ℕ) (line_from line_to from looked to at : ℕ) → from ≤ looked → looked ≤ to → to ≤ length bytes
    → length bytes ≡ 2 ^ 20 → NoNewline (slice_range bytes from looked) → IsFirstByte (is_byte 10) (slice_range bytes looked to) (Some at)
    → Cut (held bytes line_from line_to from looked to) (held bytes from (looked + at) (looked + at + 1) (looked + at + 1) to)
cut-found bytes line_from line_to from looked to at low high within size none first =
    let rest = slice_range bytes looked to in
    let found : at < length rest = first.0.high in
    let len : length rest ≡ to - looked = length-between bytes looked to within in
    let place : looked + suc at ≡ looked + at + 1 = omega arith in
    let back : drop at rest ≡ 10 ∷ slice_range bytes (looked + at + 1) to =
    drop-cons rest at 0 found ∙ ap₂ (λ byte l. byte ∷ l) (eqb-true _ 10 first.1)
    (drop-slice_range bytes looked to (suc at) (omega arith) ∙ ap (λ n. slice_range bytes n to) place) in
    let line : slice_range bytes from (looked + at) ≡ slice_range bytes from looked ++ take at rest =
    slice_range-split bytes from looked (looked + at) low (omega arith)
    ∙ ap (λ l. slice_range bytes from looked ++ l) (sym (take-slice_range bytes looked to at (omega arith))) in
    let fits : length (slice_range bytes from (looked + at)) ≡ looked + at - from = length-between bytes from (looked + at) (omega arith) in
    record {
      piece = take at rest;
      is_rest = sym (take-append-drop at rest) ∙ ap (λ l. take at rest ++ l) back;
      is_line = line;
      is_begun = between_none bytes (looked + at + 1);
      no_newline = subst NoNewline (sym line) (NoNewline-append _ _ none (NoNewline-before rest at first));
      fits = omega arith;
    }

-- no newline was found
pub looked-none : (bytes : List ℕ) (from looked to : ℕ) → from ≤ looked → looked ≤ to → NoNewline (slice_range bytes from looked)
    → IsFirstByte (is_byte 10) (slice_range bytes looked to) None → NoNewline (slice_range bytes from to)
looked-none bytes from looked to low high none nowhere =
    subst NoNewline (sym (slice_range-split bytes from looked to low high)) (NoNewline-append _ _ none (NoNewline-nowhere _ nowhere))

-- a list in place of a vector's items
pub take-whole : (xs ys : List ℕ) (n : ℕ) → length ys ≡ n → take n (ys ++ drop (length ys) xs) ≡ ys
take-whole xs ys n len = take_at ys _ n len
