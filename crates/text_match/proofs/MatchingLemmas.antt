-- The function that tells whether a text matches a wildcard decides just that.
use Rattle.std.proofs.Common.{◌≡◌, ℕ, Bool, true, false, ◌||◌, List, [], ◌∷◌, ◌++◌, Some, None, Option, length, take, drop, refl, sym, ap, ◌∙◌, inl, inr, bytes_eq, if◌then◌else◌, take-append-drop}
use Rattle.std.proofs.lemmas.Bool.{false≢true, or_cases}
use Rattle.std.proofs.lemmas.Slice.Eq.{bytes_eq-Decides}
use Rattle.std.proofs.Math.Seq.{take-append_seam, drop-append_seam}
use Rattle.std.specs.Bool.{Decides}
use Rattle.std.specs.Option.{option_map_or}
use Rattle.text_match.specs.Wildcards.{compared, AreTurns, IsMatched}
use Rattle.text_match.specs.Matching.{has_end, after_piece, are_turns, is_matched}
use Rattle.text_match.proofs.SplitLemmas.{compared-length}

-- the text is the piece, as it is compared, and then the rest
record Begins (strict : Bool) (piece text rest : List ℕ) : Type 0 where
  found : List ℕ
  is_text : text ≡ found ++ rest
  is_piece : compared strict found ≡ compared strict piece

begins_cut : (strict : Bool) (piece text rest : List ℕ) (test : Bool) → bytes_eq (compared strict (take (length piece) text)) (compared strict piece) ≡ test
    → (if test then Some (drop (length piece) text) else None) ≡ Some rest → Begins strict piece text rest
begins_cut strict piece text rest true same is = record {
  found = take (length piece) text;
  is_text = sym (take-append-drop (length piece) text) ∙ ap (λ o. take (length piece) text ++ option_map_or (λ xs. xs) o []) is;
  is_piece = (bytes_eq-Decides (compared strict (take (length piece) text)) (compared strict piece)).0 same;
}
begins_cut strict piece text rest false same is = absurd cc

after-begins : (strict : Bool) (piece text rest : List ℕ) → after_piece strict piece text ≡ Some rest → Begins strict piece text rest
after-begins strict piece text rest is = begins_cut strict piece text rest (bytes_eq (compared strict (take (length piece) text)) (compared strict piece)) refl is

begins-after : (strict : Bool) (piece text rest : List ℕ) → Begins strict piece text rest → after_piece strict piece text ≡ Some rest
begins-after strict piece text rest b =
    let long : length piece ≡ length b.found = sym (compared-length strict b.found piece b.is_piece) in
    let front : take (length piece) text ≡ b.found = ap (λ n. take n text) long ∙ ap (take (length b.found)) b.is_text ∙ take-append_seam b.found rest in
    let behind : drop (length piece) text ≡ rest = ap (λ n. drop n text) long ∙ ap (drop (length b.found)) b.is_text ∙ drop-append_seam b.found rest in
    let same : bytes_eq (compared strict (take (length piece) text)) (compared strict piece) ≡ true
    = (bytes_eq-Decides (compared strict (take (length piece) text)) (compared strict piece)).1 (ap (compared strict) front ∙ b.is_piece) in
    ap (λ t. if t then Some (drop (length piece) text) else None) same ∙ ap Some behind

abbrev HasEnd : (List ℕ → Bool) → List ℕ → Type 0
HasEnd test text = (before rest : List ℕ) × (text ≡ before ++ rest) × (test rest ≡ true)

end-found : (test : List ℕ → Bool) (text : List ℕ) → has_end test text ≡ true → HasEnd test text
end-found test [] holds = ([], [], refl, holds)
end-found test (byte ∷ text) holds = elim (or_cases (test (byte ∷ text)) (has_end test text) holds) [
  | inl here ↦ ([], byte ∷ text, refl, here)
  | inr further ↦ let f = end-found test text further in (byte ∷ f.0, f.1, ap (λ rest. byte ∷ rest) f.2, f.3)
]

or_left : (a b : Bool) → a ≡ true → (a || b) ≡ true
or_left a b is = ap (λ x. x || b) is

or_right : (a b : Bool) → b ≡ true → (a || b) ≡ true
or_right true b is = refl
or_right false b is = is

end-here : (test : List ℕ → Bool) (text : List ℕ) → test text ≡ true → has_end test text ≡ true
end-here test [] holds = holds
end-here test (byte ∷ text) holds = or_left (test (byte ∷ text)) (has_end test text) holds

end-there : (test : List ℕ → Bool) (before rest : List ℕ) → test rest ≡ true → has_end test (before ++ rest) ≡ true
end-there test [] rest holds = end-here test rest holds
end-there test (byte ∷ before) rest holds = or_right (test (byte ∷ before ++ rest)) (has_end test (before ++ rest)) (end-there test before rest holds)

abbrev goes_on : Bool → List (List ℕ) → List ℕ → List ℕ → Bool
goes_on strict pieces piece rest = option_map_or (are_turns strict pieces) (after_piece strict piece rest) false

passes : (test : List ℕ → Bool) (o : Option (List ℕ)) → option_map_or test o false ≡ true → (rest : List ℕ) × (o ≡ Some rest) × (test rest ≡ true)
passes test None holds = absurd (false≢true holds)
passes test (Some rest) holds = (rest, refl, holds)

turns-found : (strict : Bool) (pieces : List (List ℕ)) (text : List ℕ) → are_turns strict pieces text ≡ true → (takes : List (List ℕ)) × AreTurns strict pieces text takes
turns-found strict [] text holds = ([], (bytes_eq-Decides text []).0 holds)
turns-found strict (piece ∷ pieces) text holds =
    let e = end-found (goes_on strict pieces piece) text holds in
    let p = passes (are_turns strict pieces) (after_piece strict piece e.1) e.3 in
    let b = after-begins strict piece e.1 p.0 p.1 in
    let more = turns-found strict pieces p.0 p.2 in
    (e.0 ∷ more.0, (p.0, record { found = b.found; is_text = e.2 ∙ ap (λ rest. e.0 ++ rest) b.is_text; is_piece = b.is_piece }, more.1))

turns-there : (strict : Bool) (pieces : List (List ℕ)) (text : List ℕ) (takes : List (List ℕ)) → AreTurns strict pieces text takes → are_turns strict pieces text ≡ true
turns-there strict [] text [] h = (bytes_eq-Decides text []).1 h
turns-there strict [] text (taken ∷ takes) h = absurd h
turns-there strict (piece ∷ pieces) text [] h = absurd h
turns-there strict (piece ∷ pieces) text (taken ∷ takes) h =
    let cut = h.1 in
    let after = begins-after strict piece (cut.found ++ h.0) h.0 (record { found = cut.found; is_text = refl; is_piece = cut.is_piece }) in
    let goes : goes_on strict pieces piece (cut.found ++ h.0) ≡ true
    = ap (λ o. option_map_or (are_turns strict pieces) o false) after ∙ turns-there strict pieces h.0 takes h.2 in
    ap (has_end (goes_on strict pieces piece)) cut.is_text ∙ end-there (goes_on strict pieces piece) taken (cut.found ++ h.0) goes

matched-found : (pieces : List (List ℕ)) (strict : Bool) (text : List ℕ) → is_matched pieces strict text ≡ true → IsMatched pieces strict text
matched-found [] strict text holds = absurd (false≢true holds)
matched-found (piece ∷ pieces) strict text holds =
    let p = passes (are_turns strict pieces) (after_piece strict piece text) holds in
    let b = after-begins strict piece text p.0 p.1 in
    let more = turns-found strict pieces p.0 p.2 in
    (more.0, (p.0, record { found = b.found; is_text = b.is_text; is_piece = b.is_piece }, more.1))

matched-there : (pieces : List (List ℕ)) (strict : Bool) (text : List ℕ) → IsMatched pieces strict text → is_matched pieces strict text ≡ true
matched-there [] strict text h = absurd h.1
matched-there (piece ∷ pieces) strict text h =
    let cut = h.1.1 in
    let after = begins-after strict piece text h.1.0 (record { found = cut.found; is_text = cut.is_text; is_piece = cut.is_piece }) in
    ap (λ o. option_map_or (are_turns strict pieces) o false) after ∙ turns-there strict pieces h.1.0 h.0 h.1.2

pub is_matched-Decides : (pieces : List (List ℕ)) (strict : Bool) (text : List ℕ) → Decides (is_matched pieces strict text) (IsMatched pieces strict text)
is_matched-Decides pieces strict text = (matched-found pieces strict text, matched-there pieces strict text)
