-- A text holds another exactly where a search for it ends at some place.
use Rattle.std.proofs.Common.{◌≡◌, ℕ, ◌+◌, ◌<◌, ◌≤◌, Bool, true, false, ◌||◌, nat_eq, List, [], ◌∷◌, ◌++◌, length, take, drop, Option, None, Some, is_some, refl, sym, ap, ◌∙◌, inl, inr, arith, length-append, length-take, take-append-drop}
use Rattle.std.specs.List.{starts_with}
use Rattle.std.proofs.lemmas.Bool.{or_cases}
use Rattle.std.proofs.lemmas.Slice.Eq.{bytes_eq-Decides}
use Rattle.std.proofs.Math.Seq.{take-append_seam, drop-append_seam}
use Rattle.memchr.specs.Find.{OccursAt, Nowhere, FindsNeedle}
use Rattle.memchr.proofs.lemmas.MatchLemmas.{OccursAt-split, OccursAt-from_part}
use Rattle.text_match.specs.Matching.{has_end, has_part}

abbrev begins_with : List ℕ → List ℕ → Bool
begins_with part rest = starts_with nat_eq rest part

begins : (part more : List ℕ) → begins_with part (part ++ more) ≡ true
begins part more = (bytes_eq-Decides part (take (length part) (part ++ more))).1 (sym (take-append_seam part more))

or_left : (a b : Bool) → a ≡ true → (a || b) ≡ true
or_left a b is = ap (λ x. x || b) is

or_right : (a b : Bool) → b ≡ true → (a || b) ≡ true
or_right true b is = refl
or_right false b is = is

end_here : (test : List ℕ → Bool) (text : List ℕ) → test text ≡ true → has_end test text ≡ true
end_here test [] holds = holds
end_here test (byte ∷ text) holds = or_left (test (byte ∷ text)) (has_end test text) holds

end_there : (test : List ℕ → Bool) (before rest : List ℕ) → test rest ≡ true → has_end test (before ++ rest) ≡ true
end_there test [] rest holds = end_here test rest holds
end_there test (byte ∷ before) rest holds = or_right (test (byte ∷ before ++ rest)) (has_end test (before ++ rest)) (end_there test before rest holds)

end_found : (test : List ℕ → Bool) (text : List ℕ) → has_end test text ≡ true → (before rest : List ℕ) × (text ≡ before ++ rest) × (test rest ≡ true)
end_found test [] holds = ([], [], refl, holds)
end_found test (byte ∷ text) holds = elim (or_cases (test (byte ∷ text)) (has_end test text) holds) [
  | inl here ↦ ([], byte ∷ text, refl, here)
  | inr further ↦ let f = end_found test text further in (byte ∷ f.0, f.1, ap (λ rest. byte ∷ rest) f.2, f.3)
]

part_found : (text part : List ℕ) (at : ℕ) → OccursAt text part at → has_part text part ≡ true
part_found text part at occurs =
    ap (has_end (begins_with part)) (sym (take-append-drop at text))
    ∙ end_there (begins_with part) (take at text) (drop at text)
    (ap (begins_with part) (OccursAt-split text part at occurs) ∙ begins part (drop (at + length part) text))

occurs_behind : (text part before rest : List ℕ) → text ≡ before ++ rest → begins_with part rest ≡ true → OccursAt text part (length before) × (length before < length text + 1)
occurs_behind text part before rest is starts =
    let front : part ≡ take (length part) rest = (bytes_eq-Decides part (take (length part) rest)).0 starts in
    let same : take (length part) (drop (length before) text) ≡ part
    = ap (λ t. take (length part) (drop (length before) t)) is ∙ ap (take (length part)) (drop-append_seam before rest) ∙ sym front in
    let long : length text ≡ length before + length rest = ap length is ∙ length-append before rest in
    let few : length part ≤ length rest = omega (arith, ap length front, length-take (length part) rest) in
    (OccursAt-from_part text part (length before) (omega arith) same, omega arith)

not_true : (b : Bool) → ¬ (b ≡ true) → b ≡ false
not_true true h = absurd (h refl)
not_true false h = refl

part_nowhere : (text part : List ℕ) → Nowhere (OccursAt text part) 0 (length text + 1) → has_part text part ≡ false
part_nowhere text part nowhere = not_true (has_part text part) (λ holds.
    let e = end_found (begins_with part) text holds in
    let found = occurs_behind text part e.0 e.1 e.2 e.3 in
    nowhere (length e.0) (omega arith) found.1 found.0)

pub part_is : (text part : List ℕ) (found : Option ℕ) → FindsNeedle text part 0 found → is_some found ≡ has_part text part
part_is text part None nowhere = sym (part_nowhere text part nowhere)
part_is text part (Some at) here = sym (part_found text part at here.1)
