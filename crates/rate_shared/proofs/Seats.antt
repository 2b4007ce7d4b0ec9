-- Beginnings of a list, numbers that go to a seat, and what a seat knows over the step of another.
use Rattle.std.proofs.Common.{◌≡◌, ◌≢◌, ◌⊎◌, ℕ, zero, suc, ◌+◌, ◌<◌, ◌≤◌, List, [], ◌∷◌, ◌++◌, All, length, get_or, set, refl, sym, ap, ◌∙◌, subst, subst₂, inl, inr, ⊎_elim, append_assoc, append-nil, arith}
use mathlib.Core.List.{IsPrefix}
use mathlib.Core.Option.{some, some-injective, some-ne-none}
use native.Mathlib.Decide.{dec_le, dec_lt}
use lib.ListN.{get_elem?}
use Rattle.std.proofs.lemmas.List.Elements.{All-weaker}
use Rattle.atomic_table.proofs.Lists.{at_set}
use Rattle.rate_plain.specs.Window.{entries_in}
use Rattle.rate_plain.specs.History.{own_of}
use Rattle.rate_plain.specs.declared.entry.Entry.{Entry}
use Rattle.rate_shared.specs.declared.rule.Shape.{Shape}
use Rattle.rate_shared.specs.declared.rule.Known.{Known}
use Rattle.rate_shared.specs.declared.rule.View.{View}
use Rattle.rate_shared.specs.Rule.{turn_word, IsKnown, HasTurn, Knows}

pub prefix_self : (a : List Entry) → IsPrefix a a
prefix_self a = ([], append-nil a)

pub prefix_longer : (a b c : List Entry) → IsPrefix a b → IsPrefix b c → IsPrefix a c
prefix_longer a b c t u = (t.0 ++ u.0, sym (append_assoc a t.0 u.0) ∙ ap (λ x. x ++ u.0) t.1 ∙ u.1)

abbrev choose : {P : Type 0} → Dec P → ℕ → ℕ → ℕ
choose (yes _) a b = a
choose (no _) a b = b

-- the numbers `from` up to `to` go to the seat, and others stay
pub moved : ℕ → ℕ → ℕ → (ℕ → ℕ) → ℕ → ℕ
moved from to seat owner k = choose (dec_le from k) (choose (dec_lt k to) seat (owner k)) (owner k)

pub moved_in : (from to seat : ℕ) (owner : ℕ → ℕ) (k : ℕ) → from ≤ k → k < to → moved from to seat owner k ≡ seat
unfolding moved
moved_in from to seat owner k low high = by (dec_le from k) (dec_lt k to)
  where
    by : (a : Dec (from ≤ k)) (b : Dec (k < to)) → choose a (choose b seat (owner k)) (owner k) ≡ seat
    by (yes _) (yes _) = refl
    by (yes _) (no n) = absurd (n high)
    by (no n) _ = absurd (n low)

pub moved_kept : (from to seat : ℕ) (owner : ℕ → ℕ) (k j : ℕ) → owner k ≡ j → (from ≤ k → k < to → seat ≡ j) → moved from to seat owner k ≡ j
unfolding moved
moved_kept from to seat owner k j was within = by (dec_le from k) (dec_lt k to)
  where
    by : (a : Dec (from ≤ k)) (b : Dec (k < to)) → choose a (choose b seat (owner k)) (owner k) ≡ j
    by (yes low) (yes high) = within low high
    by (yes _) (no _) = was
    by (no _) _ = was

-- what is kept of each view, where one is replaced
pub each_set : (K : ℕ → View → Type 0) (vs : List View) (id : ℕ) (w : View) → K id w → ((j : ℕ) (d : View) → j ≢ id → get_elem? vs j ≡ some d → K j d)
    → (j : ℕ) (d : View) → get_elem? (set vs id w) j ≡ some d → K j d
each_set K vs id w mine others j d e =
    ⊎_elim (λ (t : (j ≡ id) × (w ≡ d)). subst (λ (x : ℕ × View). K x.0 x.1) (λ i. (sym t.0 i, t.1 i)) mine)
    (λ (t : (j ≢ id) × (get_elem? vs j ≡ some d)). others j d t.0 t.1) (at_set vs id j w d e)

pub at_first : (v d : View) (j : ℕ) → get_elem? (v ∷ []) j ≡ some d → (j ≡ 0) × (v ≡ d)
at_first v d zero e = (refl, some-injective v d e)
at_first v d (suc j) e = absurd (some-ne-none d (sym e))

-- a view is among these, or it is the further one at the end
pub at_end : (vs : List View) (v d : View) (j : ℕ) → get_elem? (vs ++ v ∷ []) j ≡ some d → (get_elem? vs j ≡ some d) ⊎ ((j ≡ length vs) × (v ≡ d))
at_end [] v d zero e = inr (refl, some-injective v d e)
at_end [] v d (suc j) e = absurd (some-ne-none d (sym e))
at_end (x ∷ xs) v d zero e = inl e
at_end (x ∷ xs) v d (suc j) e = ⊎_elim (λ t. inl t) (λ t. inr (ap suc t.0, t.1)) (at_end xs v d j e)

module _ (shape : Shape) (owner owner' : ℕ → ℕ) (seat : ℕ) (history history' : List Entry) (longer : IsPrefix history history') where
  pub known_stays : (known : Known) → ((k : ℕ) → known.from ≤ k → k < known.to → owner k ≡ seat → (owner' k ≡ seat) × (own_of history' k ≡ own_of history k))
      → IsKnown shape owner seat history known → IsKnown shape owner' seat history' known
  known_stays known its is = record {
    seen = prefix_longer known.seen history history' is.seen longer;
    owned = λ k low high. let was = is.owned k low high in let now = its k low high was.0 in (now.0, now.1 ∙ was.1);
    within = is.within;
  }

  -- a seat that makes no step knows on what it knew
  pub knows_on : (words words' : List ℕ) (holder holder' : ℕ → ℕ) (v : View)
      → ((k : ℕ) → owner k ≡ seat → (owner' k ≡ seat) × (own_of history' k ≡ own_of history k))
      → ((lane : ℕ) → lane < shape.lanes → holder lane ≡ seat → get_or words (turn_word lane) 0 ≡ 1
      → (get_or words' (turn_word lane) 0 ≡ 1) × (holder' lane ≡ seat) × (entries_in shape.lanes lane history' ≡ entries_in shape.lanes lane history))
      → Knows shape words holder owner history seat v → Knows shape words' holder' owner' history' seat v
  knows_on words words' holder holder' v numbers turns is = record {
    shape_is = is.shape_is;
    known = known_stays v.known (λ k _ _ has. numbers k has) is.known;
    kept = All-weaker (IsKnown shape owner seat history) (IsKnown shape owner' seat history') (λ x h. known_stays x (λ k _ _ has. numbers k has) h) v.kept is.kept;
    turn = λ lane has. let was = is.turn lane has in let now = turns lane was.within was.held was.taken in record {
      within = was.within;
      taken = now.0;
      held = now.1;
      list = was.list ∙ sym now.2;
    };
  }
