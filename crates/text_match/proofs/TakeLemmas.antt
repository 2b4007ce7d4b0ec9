-- The first takes as a function of the text are those of which the relation speaks.
use Rattle.std.proofs.Common.{◌≡◌, ℕ, ◌<◌, Bool, true, false, cond, List, [], ◌∷◌, ◌++◌, length, take, drop, map, Option, None, Some, MatchOption, Result, Ok, Err, IfOk, inl, inr, ⊎_elim, refl, sym, ap, subst, ◌∙◌, arith, take-append-drop}
use Rattle.std.specs.List.{onto_first}
use Rattle.std.specs.Option.{option_map, option_or}
use Rattle.std.proofs.lemmas.Slice.Eq.{bytes_eq-Decides}
use Rattle.text_match.specs.Splits.{HasTurns, AreFirstTurns}
use Rattle.text_match.specs.Wildcards.{IsSplit, AreTurns, IsMatched, IsNoLater, First, compared}
use Rattle.text_match.proofs.SplitLemmas.{compared-length, take_front, drop_front}
use Rattle.text_match.proofs.TurnLemmas.{front_needed, front_takes, first_is_unique, no_pieces, first_of_none}
use Rattle.text_match.specs.Matching.{stands_at_front}
use Rattle.text_match.specs.Takes.{empty_take, shortest_take, first_turns, first_takes, TakesAreFirst}

-- a text that begins with a piece is split there
split_at_front : (strict : Bool) (piece text : List ℕ) → stands_at_front strict piece text ≡ true → IsSplit strict piece text [] (drop (length piece) text)
split_at_front strict piece text h = record {
  found = take (length piece) text;
  is_text = sym (take-append-drop (length piece) text);
  is_piece = (bytes_eq-Decides (compared strict (take (length piece) text)) (compared strict piece)).0 h;
}

-- what is found at the front has the piece's length
found_is : (strict : Bool) (piece text after : List ℕ) (cut : IsSplit strict piece text [] after) → cut.found ≡ take (length piece) text
found_is strict piece text after cut =
    sym (ap (λ n. take n text) (sym (compared-length strict cut.found piece cut.is_piece)) ∙ take_front cut.found after text cut.is_text)

front_of_split : (strict : Bool) (piece text after : List ℕ) → IsSplit strict piece text [] after → stands_at_front strict piece text ≡ true
front_of_split strict piece text after cut =
    (bytes_eq-Decides (compared strict (take (length piece) text)) (compared strict piece)).1
    (ap (compared strict) (sym (found_is strict piece text after cut)) ∙ cut.is_piece)

after_of_split : (strict : Bool) (piece text after : List ℕ) → IsSplit strict piece text [] after → after ≡ drop (length piece) text
after_of_split strict piece text after cut =
    sym (ap (λ n. drop n text) (sym (compared-length strict cut.found piece cut.is_piece)) ∙ drop_front cut.found after text cut.is_text)

-- a split further on is one of the rest of the text
further : (strict : Bool) (piece : List ℕ) (byte : ℕ) (text before after : List ℕ) → IsSplit strict piece text before after → IsSplit strict piece (byte ∷ text) (byte ∷ before) after
further strict piece byte text before after cut = record {
  found = cut.found;
  is_text = ap (λ xs. byte ∷ xs) cut.is_text;
  is_piece = cut.is_piece;
}

head_of : (byte other : ℕ) (text before after : List ℕ) → byte ∷ text ≡ other ∷ before ++ after → byte ≡ other
head_of byte other text before after e = cc

tail_of : (byte other : ℕ) (text more : List ℕ) → byte ∷ text ≡ other ∷ more → text ≡ more
tail_of byte other text more e = cc

nearer : (strict : Bool) (piece : List ℕ) (byte other : ℕ) (text before after : List ℕ) → IsSplit strict piece (byte ∷ text) (other ∷ before) after → IsSplit strict piece text before after
nearer strict piece byte other text before after cut = record {
  found = cut.found;
  is_text = tail_of byte other text (before ++ (cut.found ++ after)) cut.is_text;
  is_piece = cut.is_piece;
}

-- ---- the takes by turns

-- no turns begin with an empty take
abbrev pub NoEmpty : Bool → List ℕ → List (List ℕ) → List ℕ → Type 0
NoEmpty strict piece pieces text = (takes : List (List ℕ)) → ¬ (AreTurns strict (piece ∷ pieces) text ([] ∷ takes))

abbrev pub Finds : Bool → List (List ℕ) → List ℕ → Option (List (List ℕ)) → Type 0
Finds strict pieces text found = MatchOption found (¬ (HasTurns strict pieces text)) (λ takes. AreFirstTurns strict pieces text takes)

-- what is known of the takes that begin with an empty one
abbrev pub EmptyFinds : Bool → List ℕ → List (List ℕ) → List ℕ → Option (List (List ℕ)) → Type 0
EmptyFinds strict piece pieces text found =
    MatchOption found (NoEmpty strict piece pieces text)
    (λ takes. (others : List (List ℕ)) × (takes ≡ [] ∷ others) × AreFirstTurns strict pieces (drop (length piece) text) others × IsSplit strict piece text [] (drop (length piece) text))

module _ (strict : Bool) (piece : List ℕ) (pieces : List (List ℕ)) where
  -- behind the piece at the front there are the turns
  behind : (text after : List ℕ) (takes : List (List ℕ)) → IsSplit strict piece text [] after → AreTurns strict pieces after takes → AreTurns strict pieces (drop (length piece) text) takes
  behind text after takes cut turns = subst (λ rest. AreTurns strict pieces rest takes) (after_of_split strict piece text after cut) turns

  empty_at : (text : List ℕ) (b : Bool) (found : Option (List (List ℕ))) → stands_at_front strict piece text ≡ b → Finds strict pieces (drop (length piece) text) found → EmptyFinds strict piece pieces text (cond b (option_map (λ takes. [] ∷ takes) found) None)
  empty_at text false found is known = λ takes turns. let front = front_of_split strict piece text turns.0 turns.1 in cc
  empty_at text true None is none = λ takes turns. none (takes, behind text turns.0 takes turns.1 turns.2)
  empty_at text true (Some others) is first = (others, refl, first, split_at_front strict piece text is)

  empty_least : (text : List ℕ) (takes others : List (List ℕ)) → AreFirstTurns strict pieces (drop (length piece) text) takes → AreTurns strict (piece ∷ pieces) text others → IsNoLater (map length ([] ∷ takes)) (map length others)
  empty_least text takes [] first turns = absurd turns
  empty_least text takes ([] ∷ others) first turns = inr (refl, first.are_least others (behind text turns.0 others turns.1 turns.2))
  empty_least text takes ((byte ∷ taken) ∷ others) first turns = let less : 0 < length (byte ∷ taken) = omega arith in inl less

  first_of_empty : (text : List ℕ) (takes : List (List ℕ)) → AreFirstTurns strict pieces (drop (length piece) text) takes → IsSplit strict piece text [] (drop (length piece) text) → AreFirstTurns strict (piece ∷ pieces) text ([] ∷ takes)
  first_of_empty text takes first cut = record {
    are_turns = (drop (length piece) text, cut, first.are_turns);
    are_least = λ others turns. empty_least text takes others first turns;
  }

  none_in_nothing : (takes : List (List ℕ)) → NoEmpty strict piece pieces [] → ¬ (AreTurns strict (piece ∷ pieces) [] takes)
  none_in_nothing [] none turns = turns
  none_in_nothing ([] ∷ takes) none turns = none takes turns
  none_in_nothing ((byte ∷ taken) ∷ takes) none turns = let is = turns.1.is_text in cc

  in_nothing : (found : Option (List (List ℕ))) → EmptyFinds strict piece pieces [] found → Finds strict (piece ∷ pieces) [] found
  in_nothing None none = λ has. none_in_nothing has.0 none has.1
  in_nothing (Some takes) known = subst (λ ts. AreFirstTurns strict (piece ∷ pieces) [] ts) (sym known.1) (first_of_empty [] known.0 known.2 known.3)

  none_longer : (byte : ℕ) (text : List ℕ) (takes : List (List ℕ)) → NoEmpty strict piece pieces (byte ∷ text) → ¬ (HasTurns strict (piece ∷ pieces) text) → ¬ (AreTurns strict (piece ∷ pieces) (byte ∷ text) takes)
  none_longer byte text [] none nothing turns = turns
  none_longer byte text ([] ∷ takes) none nothing turns = none takes turns
  none_longer byte text ((other ∷ taken) ∷ takes) none nothing turns =
      nothing (taken ∷ takes, (turns.0, nearer strict piece byte other text taken turns.0 turns.1, turns.2))

  longer_least : (byte : ℕ) (text taken : List ℕ) (takes others : List (List ℕ)) → NoEmpty strict piece pieces (byte ∷ text) → AreFirstTurns strict (piece ∷ pieces) text (taken ∷ takes) → AreTurns strict (piece ∷ pieces) (byte ∷ text) others → IsNoLater (map length ((byte ∷ taken) ∷ takes)) (map length others)
  longer_least byte text taken takes [] none first turns = absurd turns
  longer_least byte text taken takes ([] ∷ others) none first turns = absurd (none others turns)
  longer_least byte text taken takes ((other ∷ also) ∷ others) none first turns =
      ⊎_elim
      (λ (less : length taken < length also). let longer : length (byte ∷ taken) < length (other ∷ also) = omega arith in inl longer)
      (λ (same : (length taken ≡ length also) × IsNoLater (map length takes) (map length others)).
      let size = same.0 in let sizes : length (byte ∷ taken) ≡ length (other ∷ also) = omega arith in inr (sizes, same.1))
      (first.are_least (also ∷ others) (turns.0, nearer strict piece byte other text also turns.0 turns.1, turns.2))

  longer_turns : (byte : ℕ) (text taken : List ℕ) (takes : List (List ℕ)) → AreTurns strict (piece ∷ pieces) text (taken ∷ takes) → AreTurns strict (piece ∷ pieces) (byte ∷ text) ((byte ∷ taken) ∷ takes)
  longer_turns byte text taken takes turns = (turns.0, further strict piece byte text taken turns.0 turns.1, turns.2)

  one_more : (byte : ℕ) (text : List ℕ) (here rest : Option (List (List ℕ))) → EmptyFinds strict piece pieces (byte ∷ text) here → Finds strict (piece ∷ pieces) text rest → Finds strict (piece ∷ pieces) (byte ∷ text) (option_or here (option_map (onto_first byte) rest))
  one_more byte text (Some takes) rest known later =
      subst (λ ts. AreFirstTurns strict (piece ∷ pieces) (byte ∷ text) ts) (sym known.1) (first_of_empty (byte ∷ text) known.0 known.2 known.3)
  one_more byte text None None none nothing = λ has. none_longer byte text has.0 none nothing has.1
  one_more byte text None (Some []) none first = absurd first.are_turns
  one_more byte text None (Some (taken ∷ takes)) none first = record {
    are_turns = longer_turns byte text taken takes first.are_turns;
    are_least = λ others turns. longer_least byte text taken takes others none first turns;
  }

  pub shortest : (later : List ℕ → Option (List (List ℕ))) → ((rest : List ℕ) → Finds strict pieces rest (later rest)) → (text : List ℕ) → Finds strict (piece ∷ pieces) text (shortest_take strict piece later text)
  shortest later known [] = in_nothing (empty_take strict piece later []) (empty_at [] (stands_at_front strict piece []) (later (drop (length piece) [])) refl (known (drop (length piece) [])))
  shortest later known (byte ∷ text) =
      one_more byte text (empty_take strict piece later (byte ∷ text)) (shortest_take strict piece later text)
      (empty_at (byte ∷ text) (stands_at_front strict piece (byte ∷ text)) (later (drop (length piece) (byte ∷ text))) refl (known (drop (length piece) (byte ∷ text))))
      (shortest later known text)

no_pieces_found : (strict : Bool) (text : List ℕ) → Finds strict [] text (first_turns strict [] text)
no_pieces_found strict [] = first_of_none strict [] refl
no_pieces_found strict (byte ∷ text) = λ has. let is = no_pieces strict (byte ∷ text) has in cc

turns_found : (strict : Bool) (pieces : List (List ℕ)) (text : List ℕ) → Finds strict pieces text (first_turns strict pieces text)
turns_found strict [] text = no_pieces_found strict text
turns_found strict (piece ∷ pieces) text = shortest strict piece pieces (first_turns strict pieces) (turns_found strict pieces) text

-- ---- the takes of a wildcard

at_front : (strict : Bool) (piece : List ℕ) (pieces : List (List ℕ)) (text : List ℕ) (b : Bool) (found : Option (List (List ℕ))) → stands_at_front strict piece text ≡ b → Finds strict pieces (drop (length piece) text) found → MatchOption (cond b found None) (¬ (IsMatched (piece ∷ pieces) strict text)) (λ takes. First (piece ∷ pieces) strict text takes)
at_front strict piece pieces text true found is known = front_takes strict piece pieces text (drop (length piece) text) found (split_at_front strict piece text is) known
at_front strict piece pieces text false found is known =
    front_needed strict piece pieces text (λ after cut. let front = front_of_split strict piece text after cut in cc)

pub takes_are_first : TakesAreFirst
unfolding first_takes
takes_are_first [] strict text = λ has. has.1
takes_are_first (piece ∷ pieces) strict text =
    at_front strict piece pieces text (stands_at_front strict piece text) (first_turns strict pieces (drop (length piece) text)) refl
    (turns_found strict pieces (drop (length piece) text))

-- two answers of which the same is known are the same
same_answer : (pieces : List (List ℕ)) (strict : Bool) (text : List ℕ) (a b : Option (List (List ℕ))) → MatchOption a (¬ (IsMatched pieces strict text)) (λ takes. First pieces strict text takes) → MatchOption b (¬ (IsMatched pieces strict text)) (λ takes. First pieces strict text takes) → a ≡ b
same_answer pieces strict text None None first second = refl
same_answer pieces strict text None (Some ys) first second = absurd (first (ys, second.is_match))
same_answer pieces strict text (Some xs) None first second = absurd (second (xs, first.is_match))
same_answer pieces strict text (Some xs) (Some ys) first second = ap Some (first_is_unique pieces strict text xs ys first second)

pub takes_found : {E : Type 0} (pieces : List (List ℕ)) (strict : Bool) (text : List ℕ) (result : Result (Option (List (List ℕ))) E) → IfOk result (λ found. MatchOption found (¬ (IsMatched pieces strict text)) (λ takes. First pieces strict text takes)) → IfOk result (λ found. found ≡ first_takes pieces strict text)
takes_found pieces strict text (Ok found) known = same_answer pieces strict text found (first_takes pieces strict text) known (takes_are_first pieces strict text)
takes_found pieces strict text (Err error) known = tt
