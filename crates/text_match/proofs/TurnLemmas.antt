-- Takes and pieces by turns: a first split at a piece loses no match, and gives the first takes.
use Rattle.std.proofs.Common.{◌≡◌, ℕ, ◌+◌, ◌-◌, ◌<◌, ◌≤◌, ◌↔◌, Bool, List, [], ◌∷◌, ◌++◌, length, take, drop, refl, sym, ap, ap₂, subst, ◌∙◌, arith, inl, inr, ⊎_elim, length-take-le, append_assoc, take-append-drop, drop-drop}
use Rattle.std.proofs.Common.{suc, get_or, get_or-take, Option, None, Some, Bor, IsTrue, MatchOption, Result, Ok, Err, IfOk}
use Rattle.std.specs.Prelude.{map, is_some}
use Rattle.std.proofs.Math.Numerals.{add-one}
use Rattle.std.proofs.Math.Seq.{drop-cons, drop-length}
use Rattle.std.proofs.lemmas.Bool.{cases_lt, false≢true}
use Rattle.text_match.specs.Splits.{IsNowhere, IsFirstSplit, HasTurns, AreFirstTurns}
use Rattle.text_match.specs.Wildcards.{IsSplit, AreTurns, IsMatched, IsNoLater, First}
use Rattle.text_match.proofs.SplitLemmas.{take_front, split-length, split-after}

-- what another split leaves is the end of what the first split leaves
pub record Gap (before after others more : List ℕ) : Type 0 where
  pub gap : List ℕ
  pub is_after : after ≡ gap ++ more
  pub is_others : length before + length gap ≡ length others

pub gap_of : (strict : Bool) (piece text before after others more : List ℕ) → IsFirstSplit strict piece text before after → IsSplit strict piece text others more → Gap before after others more
gap_of strict piece text before after others more first split =
    let low = first.is_first others more split in
    let long = split-length strict piece text before after first.is_split in
    let also = split-length strict piece text others more split in
    let n : ℕ = length others - length before in
    let within : n ≤ length after = omega arith in
    let place : (length before + length piece) + n ≡ length others + length piece = omega arith in
    let rest : drop n after ≡ more =
    ap (drop n) (split-after strict piece text before after first.is_split)
    ∙ drop-drop n (length before + length piece) text
    ∙ ap (λ m. drop m text) place
    ∙ sym (split-after strict piece text others more split) in
    let size = length-take-le n after within in
    record {
      gap = take n after;
      is_after = sym (take-append-drop n after) ∙ ap (λ end. take n after ++ end) rest;
      is_others = omega arith;
    }

-- turns that begin further on begin here too, with a longer first take
longer : (strict : Bool) (piece : List ℕ) (pieces : List (List ℕ)) (gap text more : List ℕ) (takes : List (List ℕ)) → text ≡ gap ++ more → AreTurns strict (piece ∷ pieces) more takes → HasTurns strict (piece ∷ pieces) text
longer strict piece pieces gap text more [] is turns = absurd turns
longer strict piece pieces gap text more (taken ∷ takes) is turns =
    let split : IsSplit strict piece text (gap ++ taken) turns.0 = record {
      found = turns.1.found;
      is_text = is ∙ ap (λ end. gap ++ end) turns.1.is_text ∙ sym (append_assoc gap taken (turns.1.found ++ turns.0));
      is_piece = turns.1.is_piece;
    } in
    ((gap ++ taken) ∷ takes, (turns.0, split, turns.2))

-- no split, no turns
pub no_turns : (strict : Bool) (piece : List ℕ) (pieces : List (List ℕ)) (text : List ℕ) → IsNowhere strict piece text → ¬ (HasTurns strict (piece ∷ pieces) text)
no_turns strict piece pieces text none ([], turns) = absurd turns
no_turns strict piece pieces text none (taken ∷ takes, turns) = none taken turns.0 turns.1

-- a first split loses no match
pub sooner : (strict : Bool) (piece next : List ℕ) (pieces : List (List ℕ)) (text before after : List ℕ) → IsFirstSplit strict piece text before after → HasTurns strict (piece ∷ next ∷ pieces) text → HasTurns strict (next ∷ pieces) after
sooner strict piece next pieces text before after first ([], turns) = absurd turns
sooner strict piece next pieces text before after first (taken ∷ takes, turns) =
    let gap = gap_of strict piece text before after taken turns.0 first turns.1 in
    longer strict next pieces gap.gap after turns.0 takes gap.is_after turns.2

-- and what matches behind it matches with it
pub later : (strict : Bool) (piece : List ℕ) (pieces : List (List ℕ)) (text before after : List ℕ) → IsSplit strict piece text before after → HasTurns strict pieces after → HasTurns strict (piece ∷ pieces) text
later strict piece pieces text before after split has = (before ∷ has.0, (after, split, has.1))

-- the take of a first split is no longer than another first take, and where it is as long, both leave the same
step_is_least : (strict : Bool) (piece next : List ℕ) (pieces : List (List ℕ)) (text before after : List ℕ) (takes : List (List ℕ)) → IsFirstSplit strict piece text before after → AreFirstTurns strict (next ∷ pieces) after takes → (others : List (List ℕ)) → AreTurns strict (piece ∷ next ∷ pieces) text others → IsNoLater (map length (before ∷ takes)) (map length others)
step_is_least strict piece next pieces text before after takes first turns [] other = absurd other
step_is_least strict piece next pieces text before after takes first turns (taken ∷ others) other =
    let low = first.is_first taken other.0 other.1 in
    ⊎_elim (λ (shorter : length before < length taken). inl shorter)
    (λ (up_to : length taken ≤ length before).
    let same : length before ≡ length taken = omega arith in
    let left : other.0 ≡ after =
    split-after strict piece text taken other.0 other.1
    ∙ ap (λ n. drop (n + length piece) text) (sym same)
    ∙ sym (split-after strict piece text before after first.is_split) in
    inr (same, turns.are_least others (subst (λ rest. AreTurns strict (next ∷ pieces) rest others) left other.2)))
    (cases_lt (length before) (length taken))

-- the take of a first split, and then the first takes behind it, are the first takes
pub first_step : (strict : Bool) (piece next : List ℕ) (pieces : List (List ℕ)) (text before after : List ℕ) (takes : List (List ℕ)) → IsFirstSplit strict piece text before after → AreFirstTurns strict (next ∷ pieces) after takes → AreFirstTurns strict (piece ∷ next ∷ pieces) text (before ∷ takes)
first_step strict piece next pieces text before after takes first turns = record {
  are_turns = (after, first.is_split, turns.are_turns);
  are_least = step_is_least strict piece next pieces text before after takes first turns;
}

-- the last piece stands at the end of the text
pub at_end : (strict : Bool) (piece text before : List ℕ) → IsSplit strict piece text before [] → AreTurns strict (piece ∷ []) text (before ∷ [])
at_end strict piece text before split = ([], split, refl)

pub not_at_end : (strict : Bool) (piece text : List ℕ) → ((before : List ℕ) → ¬ (IsSplit strict piece text before [])) → ¬ (HasTurns strict (piece ∷ []) text)
not_at_end strict piece text none ([], turns) = absurd turns
not_at_end strict piece text none (taken ∷ [], turns) = none taken (subst (λ rest. IsSplit strict piece text taken rest) turns.2 turns.1)
not_at_end strict piece text none (taken ∷ more ∷ takes, turns) = absurd turns.2

last_is_least : (strict : Bool) (piece text before : List ℕ) → IsSplit strict piece text before [] → (others : List (List ℕ)) → AreTurns strict (piece ∷ []) text others → IsNoLater (length before ∷ []) (map length others)
last_is_least strict piece text before split [] other = absurd other
last_is_least strict piece text before split (taken ∷ []) other =
    let long = split-length strict piece text before [] split in
    let also = split-length strict piece text taken other.0 other.1 in
    let none = ap length other.2 in
    let same : length before ≡ length taken = omega arith in
    inr (same, tt)
last_is_least strict piece text before split (taken ∷ more ∷ others) other = absurd other.2

pub first_at_end : (strict : Bool) (piece text before : List ℕ) → IsSplit strict piece text before [] → AreFirstTurns strict (piece ∷ []) text (before ∷ [])
first_at_end strict piece text before split = record {
  are_turns = at_end strict piece text before split;
  are_least = last_is_least strict piece text before split;
}

-- without pieces the text is at its end
pub no_pieces : (strict : Bool) (text : List ℕ) → HasTurns strict [] text → text ≡ []
no_pieces strict text ([], turns) = turns
no_pieces strict text (taken ∷ takes, turns) = absurd turns

none_is_least : (strict : Bool) (text : List ℕ) (others : List (List ℕ)) → AreTurns strict [] text others → IsNoLater [] (map length others)
none_is_least strict text others other = tt

pub first_of_none : (strict : Bool) (text : List ℕ) → text ≡ [] → AreFirstTurns strict [] text []
first_of_none strict text is = record { are_turns = is; are_least = none_is_least strict text }

-- a piece before the last, and those from it on
pub drop_middle : (pieces : List (List ℕ)) (i : ℕ) (piece got other : List ℕ) → i < length pieces - 1 → piece ≡ got → got ≡ get_or (take (length pieces - 1) pieces) i other → drop i pieces ≡ piece ∷ drop (i + 1) pieces
drop_middle pieces i piece got other below is got_is =
    drop-cons pieces i other (omega arith)
    ∙ ap (λ n. get_or pieces i other ∷ drop n pieces) (sym (add-one i))
    ∙ ap (λ first. first ∷ drop (i + 1) pieces) (sym (is ∙ got_is ∙ get_or-take (length pieces - 1) pieces i other below))

-- the last piece alone
pub drop_last : (pieces : List (List ℕ)) (i : ℕ) (piece got other : List ℕ) → i + 1 ≡ length pieces → piece ≡ got → got ≡ get_or pieces (length pieces - 1) other → drop i pieces ≡ piece ∷ []
drop_last pieces i piece got other all is got_is =
    let place : length pieces - 1 ≡ i = omega arith in
    drop-cons pieces i other (omega arith)
    ∙ ap (λ n. get_or pieces i other ∷ drop n pieces) (sym (add-one i) ∙ all)
    ∙ ap (λ rest. get_or pieces i other ∷ rest) (drop-length pieces)
    ∙ ap (λ first. first ∷ []) (sym (is ∙ got_is ∙ ap (λ n. get_or pieces n other) place))

module _ (strict : Bool) (pieces : List (List ℕ)) (i : ℕ) (piece text before after : List ℕ) where
  -- the pieces behind this one begin with a piece too
  two : i < length pieces - 1 → drop (i + 1) pieces ≡ get_or pieces (i + 1) [] ∷ drop (suc (i + 1)) pieces
  two below = drop-cons pieces (i + 1) [] (omega arith)

  pub turns_forward : i < length pieces - 1 → drop i pieces ≡ piece ∷ drop (i + 1) pieces → IsFirstSplit strict piece text before after → HasTurns strict (drop i pieces) text → HasTurns strict (drop (i + 1) pieces) after
  turns_forward below is first has =
      subst (λ ps. HasTurns strict ps after) (sym (two below))
      (sooner strict piece (get_or pieces (i + 1) []) (drop (suc (i + 1)) pieces) text before after first
      (subst (λ ps. HasTurns strict ps text) (is ∙ ap (λ ps. piece ∷ ps) (two below)) has))

  pub turns_back : drop i pieces ≡ piece ∷ drop (i + 1) pieces → IsFirstSplit strict piece text before after → HasTurns strict (drop (i + 1) pieces) after → HasTurns strict (drop i pieces) text
  turns_back is first has =
      subst (λ ps. HasTurns strict ps text) (sym is) (later strict piece (drop (i + 1) pieces) text before after first.is_split has)

  pub first_back : (more : List (List ℕ)) → i < length pieces - 1 → drop i pieces ≡ piece ∷ drop (i + 1) pieces → IsFirstSplit strict piece text before after → AreFirstTurns strict (drop (i + 1) pieces) after more → AreFirstTurns strict (drop i pieces) text (before ∷ more)
  first_back more below is first turns =
      subst (λ ps. AreFirstTurns strict ps text (before ∷ more)) (sym (is ∙ ap (λ ps. piece ∷ ps) (two below)))
      (first_step strict piece (get_or pieces (i + 1) []) (drop (suc (i + 1)) pieces) text before after more first
      (subst (λ ps. AreFirstTurns strict ps after more) (two below) turns))

-- the last piece is sought at the end
pub end_decides : (strict : Bool) (piece text : List ℕ) (found : Option (Bor (List ℕ))) (answer : Bool) → answer ≡ is_some found → MatchOption found ((before : List ℕ) → ¬ (IsSplit strict piece text before [])) (λ before. IsSplit strict piece text before.now []) → IsTrue answer ↔ HasTurns strict (piece ∷ []) text
end_decides strict piece text None answer is none = (λ yes. absurd (false≢true (sym is ∙ yes)), λ has. absurd (not_at_end strict piece text none has))
end_decides strict piece text (Some before) answer is split = (λ _. (before.now ∷ [], at_end strict piece text before.now split), λ _. is)

module _ (strict : Bool) (first : List ℕ) (pieces : List (List ℕ)) (text : List ℕ) where
  -- without the first piece there is no match
  pub front_needed : ((after : List ℕ) → ¬ (IsSplit strict first text [] after)) → ¬ (IsMatched (first ∷ pieces) strict text)
  front_needed none has = none has.1.0 has.1.1

  behind : (rest more : List ℕ) (takes : List (List ℕ)) → IsSplit strict first text [] rest → IsSplit strict first text [] more → AreTurns strict pieces more takes → AreTurns strict pieces rest takes
  behind rest more takes split other turns =
      subst (λ end. AreTurns strict pieces end takes) (split-after strict first text [] more other ∙ sym (split-after strict first text [] rest split)) turns

  -- behind the first piece there are the turns
  pub front_decides : (rest : List ℕ) → IsSplit strict first text [] rest → HasTurns strict pieces rest ↔ IsMatched (first ∷ pieces) strict text
  front_decides rest split = (λ has. (has.0, (rest, split, has.1)), λ match. (match.0, behind rest match.1.0 match.0 split match.1.1 match.1.2))

  pub front_first : (rest : List ℕ) (takes : List (List ℕ)) → IsSplit strict first text [] rest → AreFirstTurns strict pieces rest takes → First (first ∷ pieces) strict text takes
  front_first rest takes split turns = record {
    is_match = (rest, split, turns.are_turns);
    is_least = λ others match. turns.are_least others (behind rest match.0 others split match.1 match.2);
  }

  -- what is known of the takes behind the first piece is known of all
  pub front_takes : (rest : List ℕ) (found : Option (List (List ℕ))) → IsSplit strict first text [] rest → MatchOption found (¬ (HasTurns strict pieces rest)) (λ takes. AreFirstTurns strict pieces rest takes) → MatchOption found (¬ (IsMatched (first ∷ pieces) strict text)) (λ takes. First (first ∷ pieces) strict text takes)
  front_takes rest None split none = λ match. none ((front_decides rest split).1 match)
  front_takes rest (Some takes) split turns = front_first rest takes split turns

  pub front_ok : {E : Type 0} (rest : List ℕ) (result : Result (Option (List (List ℕ))) E) → IsSplit strict first text [] rest → IfOk result (λ found. MatchOption found (¬ (HasTurns strict pieces rest)) (λ takes. AreFirstTurns strict pieces rest takes)) → IfOk result (λ found. MatchOption found (¬ (IsMatched (first ∷ pieces) strict text)) (λ takes. First (first ∷ pieces) strict text takes))
  front_ok rest (Ok found) split known = front_takes rest found split known
  front_ok rest (Err error) split known = tt

-- lists of lengths neither of which is after the other are equal
same_lengths : (xs ys : List ℕ) → IsNoLater xs ys → IsNoLater ys xs → xs ≡ ys
same_lengths [] [] first second = refl
same_lengths [] (y ∷ ys) first second = absurd second
same_lengths (x ∷ xs) [] first second = absurd first
same_lengths (x ∷ xs) (y ∷ ys) first second =
    ⊎_elim
    (λ (less : x < y). ⊎_elim (λ (more : y < x). absurd (omega arith)) (λ (both : (y ≡ x) × IsNoLater ys xs). let same = both.0 in absurd (omega arith)) second)
    (λ (these : (x ≡ y) × IsNoLater xs ys). ⊎_elim
    (λ (more : y < x). let same = these.0 in absurd (omega arith))
    (λ (those : (y ≡ x) × IsNoLater ys xs). ap₂ (λ n ns. n ∷ ns) these.0 (same_lengths xs ys these.1 those.1)) second)
    first

-- the lengths of takes and the text decide the takes
same_takes : (strict : Bool) (pieces : List (List ℕ)) (text : List ℕ) (xs ys : List (List ℕ)) → AreTurns strict pieces text xs → AreTurns strict pieces text ys → map length xs ≡ map length ys → xs ≡ ys
same_takes strict [] text [] [] first second same = refl
same_takes strict [] text [] (y ∷ ys) first second same = absurd second
same_takes strict [] text (x ∷ xs) ys first second same = absurd first
same_takes strict (piece ∷ pieces) text [] ys first second same = absurd first
same_takes strict (piece ∷ pieces) text (x ∷ xs) [] first second same = absurd second
same_takes strict (piece ∷ pieces) text (x ∷ xs) (y ∷ ys) first second same =
    let size : length x ≡ length y = cc in
    let sizes : map length xs ≡ map length ys = cc in
    let taken : x ≡ y =
    sym (take_front x (first.1.found ++ first.0) text first.1.is_text)
    ∙ ap (λ n. take n text) size
    ∙ take_front y (second.1.found ++ second.0) text second.1.is_text in
    let rest : second.0 ≡ first.0 =
    split-after strict piece text y second.0 second.1
    ∙ ap (λ n. drop (n + length piece) text) (sym size)
    ∙ sym (split-after strict piece text x first.0 first.1) in
    ap₂ (λ t ts. t ∷ ts) taken (same_takes strict pieces first.0 xs ys first.2 (subst (λ end. AreTurns strict pieces end ys) rest second.2) sizes)

-- a wildcard and a text have one list of first takes at most
pub first_is_unique : (pieces : List (List ℕ)) (strict : Bool) (text : List ℕ) (xs ys : List (List ℕ)) → First pieces strict text xs → First pieces strict text ys → xs ≡ ys
first_is_unique [] strict text xs ys first second = absurd first.is_match
first_is_unique (piece ∷ pieces) strict text xs ys first second =
    same_takes strict pieces first.is_match.0 xs ys first.is_match.2
    (behind strict piece pieces text first.is_match.0 second.is_match.0 ys first.is_match.1 second.is_match.1 second.is_match.2)
    (same_lengths (map length xs) (map length ys) (first.is_least ys second.is_match) (second.is_least xs first.is_match))
