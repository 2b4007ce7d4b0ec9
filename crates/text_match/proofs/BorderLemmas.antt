-- How a search goes on by the borders of a piece: no place of the piece is passed over.
use Rattle.std.proofs.Common.{◌≡◌, ℕ, zero, suc, ◌+◌, ◌-◌, ◌<◌, ◌≤◌, List, [], ◌∷◌, ◌++◌, length, get_or, length-append, sym, ap, subst, ◌∙◌, arith, ⊎_elim}
use Rattle.std.proofs.Math.Numerals.{add-one}
use Rattle.std.proofs.Math.Seq.{get_or-append_seam}
use Rattle.std.proofs.lemmas.Bool.{cases_lt}
use Rattle.std.proofs.lemmas.List.{get_or_append_left}
use Rattle.text_match.specs.Borders.{folded_at, IsEnd, IsBorder, AreBorders, HaveBorders, Extends, IsNext, IsPlace, IsNoPlace, IsFirstPlace}

module _ (piece : List ℕ) where
  abbrev p : ℕ → ℕ
  p = folded_at piece

  -- a front of a front's end is an end
  pub end_of_end : (size short least : ℕ) → IsEnd piece size short → IsEnd piece short least → IsEnd piece size least
  end_of_end size short least ends less = record {
    within = (let up : short ≤ size = ends.within in let low : least ≤ short = less.within in omega arith);
    same = λ k below.
        let up : short ≤ size = ends.within in
        let low : least ≤ short = less.within in
        let at : short - least + k < short = omega arith in
        let place : size - short + (short - least + k) ≡ size - least + k = omega arith in
        less.same k below ∙ ends.same (short - least + k) at ∙ ap p place;
  }

  -- the shorter of two ends of a front is an end of the longer
  pub end_within : (size short least : ℕ) → IsEnd piece size short → IsEnd piece size least → least ≤ short → IsEnd piece short least
  end_within size short least ends less low = record {
    within = low;
    same = λ k below.
        let up : short ≤ size = ends.within in
        let at : short - least + k < short = omega arith in
        let place : size - short + (short - least + k) ≡ size - least + k = omega arith in
        less.same k below ∙ sym (ends.same (short - least + k) at ∙ ap p place);
  }

  pub whole_end : (size : ℕ) → IsEnd piece size size
  whole_end size = record {
    within = omega arith;
    same = λ k below. let place : k ≡ size - size + k = omega arith in ap p place;
  }

  pub empty_end : (size : ℕ) → IsEnd piece size 0
  empty_end size = record { within = omega arith; same = λ k below. absurd (omega (arith, below)) }

  -- nothing longer than this can go on with the byte
  abbrev pub AreWithin : ℕ → ℕ → ℕ → Type 0
  AreWithin start byte size = (other : ℕ) → Extends piece start byte other → other ≤ size + 1

  pub start_within : (start byte : ℕ) → AreWithin start byte start
  start_within start byte zero extends = omega arith
  start_within start byte (suc short) extends = let low : short ≤ start = extends.0.within in omega arith

  -- the byte goes on from here
  pub next_here : (start byte size : ℕ) → IsEnd piece start size → AreWithin start byte size → p size ≡ byte → IsNext piece start byte (size + 1)
  next_here start byte size ends within is = subst (IsNext piece start byte) (sym (add-one size)) next
    where
      next : IsNext piece start byte (suc size)
      next = record {
        extends = (ends, is);
        longest = λ other extends. let low : other ≤ size + 1 = within other extends in omega arith;
      }

  -- the byte isn't even the first of the piece
  pub next_none : (start byte : ℕ) → AreWithin start byte 0 → ¬ (p 0 ≡ byte) → IsNext piece start byte 0
  next_none start byte within other = record {
    extends = tt;
    longest = longest;
  }
    where
      longest : (n : ℕ) → Extends piece start byte n → n ≤ 0
      longest zero extends = omega arith
      longest (suc zero) extends = absurd (other extends.1)
      longest (suc (suc short)) extends = let low : suc (suc short) ≤ 1 = within (suc (suc short)) extends in omega arith

  -- the byte is another, so the border is next
  pub border_within : (start byte size border : ℕ) → IsEnd piece start size → AreWithin start byte size → ¬ (p size ≡ byte) → IsBorder piece size border → AreWithin start byte border
  border_within start byte size border ends within other is zero extends = omega arith
  border_within start byte size border ends within other is (suc short) extends =
      let low : suc short ≤ size + 1 = within (suc short) extends in
      ⊎_elim
      (λ (below : short < size).
      let bound : short ≤ border = is.longest short below (end_within start size short ends extends.0 (omega arith)) in
      let goes : suc short ≤ border + 1 = omega arith in goes)
      (λ (up : size ≤ short).
      let same : short ≡ size = omega arith in
      absurd (other (ap p (sym same) ∙ extends.1)))
      (cases_lt short size)

  -- how much longer it gets
  pub next_bound : (start byte next : ℕ) → IsNext piece start byte next → next ≤ start + 1
  next_bound start byte zero is = omega arith
  next_bound start byte (suc short) is = let low : short ≤ start = is.extends.0.within in omega arith

  -- ---- the table
  -- the border of a front that is a byte longer
  pub border_next : (size border next : ℕ) → IsBorder piece size border → IsNext piece border (p size) next → IsBorder piece (size + 1) next
  border_next size border next is goes = record {
    shorter = (let short : border < size = is.shorter in let bound : next ≤ border + 1 = next_bound border (p size) next goes in omega arith);
    is_end = ends next goes.extends;
    longest = longest;
  }
    where
      short : border < size
      short = is.shorter

      ends : (n : ℕ) → Extends piece border (p size) n → IsEnd piece (size + 1) n
      ends zero extends = empty_end (size + 1)
      ends (suc n) extends =
          let low : n ≤ border = extends.0.within in
          let shorter : IsEnd piece size n = end_of_end size border n is.is_end extends.0 in
          record {
            within = omega arith;
            same = λ k below.
                let place : size + 1 - suc n + k ≡ size - n + k = omega arith in
                ⊎_elim
                (λ (inside : k < n). shorter.same k inside ∙ ap p (sym place))
                (λ (last : n ≤ k).
                let is_last : k ≡ n = omega arith in
                let end : size ≡ size + 1 - suc n + k = omega arith in
                ap p is_last ∙ extends.1 ∙ ap p end)
                (cases_lt k n);
          }

      longest : (other : ℕ) → other < size + 1 → IsEnd piece (size + 1) other → other ≤ next
      longest zero below other = omega arith
      longest (suc n) below other =
          let inside : n < size = omega arith in
          let front : IsEnd piece size n = record {
            within = omega arith;
            same = λ k less. let place : size + 1 - suc n + k ≡ size - n + k = omega arith in other.same k (omega arith) ∙ ap p place;
          } in
          let place : size + 1 - suc n + n ≡ size = omega arith in
          let last : p n ≡ p size = other.same n (omega arith) ∙ ap p place in
          goes.longest (suc n) (end_within size border n is.is_end front (is.longest n inside front), last)

  pub first_border : IsBorder piece 1 0
  first_border = record {
    shorter = omega arith;
    is_end = empty_end 1;
    longest = λ other below is. omega arith;
  }

  -- one more border in the table
  pub borders_push : (borders : List ℕ) (border : ℕ) → AreBorders piece borders → IsBorder piece (length borders + 1) border → AreBorders piece (borders ++ border ∷ [])
  borders_push borders border are is k below =
      ⊎_elim
      (λ (inside : k < length borders). subst (IsBorder piece (k + 1)) (sym (get_or_append_left borders (border ∷ []) 0 k inside)) (are k inside))
      (λ (last : length borders ≤ k).
      let size : length (borders ++ border ∷ []) ≡ length borders + 1 = length-append borders (border ∷ []) in
      let same : length borders ≡ k = omega (arith, below, size) in
      subst (λ n. IsBorder piece (n + 1) (get_or (borders ++ border ∷ []) n 0)) same
      (subst (IsBorder piece (length borders + 1)) (sym (get_or-append_seam borders border [] 0)) is))
      (cases_lt k (length borders))

  -- ---- the search
  -- the front of this size was just matched, and no place of the piece is before it
  pub record IsMatched (text : List ℕ) (at size : ℕ) : Type 0 where
    pub within : size ≤ at
    pub shorter : size < length piece
    pub same : (k : ℕ) → k < size → p k ≡ folded_at text (at - size + k)
    pub first : (other : ℕ) → IsPlace piece text other → at - size ≤ other

  pub nothing_matched : (text : List ℕ) → 0 < length piece → IsMatched text 0 0
  nothing_matched text has = record {
    within = omega arith;
    shorter = has;
    same = λ k below. absurd (omega (arith, below));
    first = λ other is. omega arith;
  }

  module _ (text : List ℕ) (at size next : ℕ) (is : IsMatched text at size) (goes : IsNext piece size (folded_at text at) next) where
    bound : next ≤ size + 1
    bound = next_bound size (folded_at text at) next goes

    within : size ≤ at
    within = is.within

    -- the front that is next was matched up to this byte
    pub next_same : (k : ℕ) → k < next → p k ≡ folded_at text (at + 1 - next + k)
    next_same = by next bound goes.extends
      where
        by : (n : ℕ) → n ≤ size + 1 → Extends piece size (folded_at text at) n → (k : ℕ) → k < n → p k ≡ folded_at text (at + 1 - n + k)
        by zero up extends k below = absurd (omega (arith, below))
        by (suc n) up extends k below =
            let low : n ≤ size = extends.0.within in
            ⊎_elim
            (λ (inside : k < n).
            let place : at - size + (size - n + k) ≡ at + 1 - suc n + k = omega arith in
            extends.0.same k inside ∙ is.same (size - n + k) (omega arith) ∙ ap (folded_at text) place)
            (λ (last : n ≤ k).
            let is_last : k ≡ n = omega arith in
            let place : at ≡ at + 1 - suc n + k = omega arith in
            ap p is_last ∙ extends.1 ∙ ap (folded_at text) place)
            (cases_lt k n)

    -- and no place is before it
    pub next_first : (other : ℕ) → IsPlace piece text other → at + 1 - next ≤ other
    next_first other place =
        let low : at - size ≤ other = is.first other place in
        let short : size < length piece = is.shorter in
        ⊎_elim
        (λ (beyond : at < other). let goes_on : at + 1 - next ≤ other = omega arith in goes_on)
        (λ (up : other ≤ at).
        let n : ℕ = at - other in
        let ends : IsEnd piece size n = record {
          within = omega arith;
          same = λ k below.
              let here : other + k ≡ at - size + (size - n + k) = omega arith in
              place.same k (omega arith) ∙ ap (folded_at text) here ∙ sym (is.same (size - n + k) (omega arith));
        } in
        let here : other + n ≡ at = omega arith in
        let last : p n ≡ folded_at text at = place.same n (omega arith) ∙ ap (folded_at text) here in
        let long : suc n ≤ next = goes.longest (suc n) (ends, last) in
        let goes_on : at + 1 - next ≤ other = omega arith in goes_on)
        (cases_lt at other)

    pub matched_more : next < length piece → IsMatched text (at + 1) next
    matched_more short = record {
      within = omega (arith, bound, within);
      shorter = short;
      same = next_same;
      first = next_first;
    }

    -- the whole piece was matched
    pub found_here : at < length text → next ≡ length piece → IsFirstPlace piece text (at + 1 - next)
    found_here inside whole = record {
      is_place = record {
        within = omega (arith, bound, within, inside, whole);
        same = λ k below. next_same k (omega (arith, below, whole));
      };
      first = next_first;
    }

  -- the end of the text was reached
  pub found_nowhere : (text : List ℕ) (size : ℕ) → IsMatched text (length text) size → IsNoPlace piece text
  found_nowhere text size is other place =
      let low : length text - size ≤ other = is.first other place in
      let short : size < length piece = is.shorter in
      let within : size ≤ length text = is.within in
      let end : other + length piece ≤ length text = place.within in
      absurd (omega arith)
