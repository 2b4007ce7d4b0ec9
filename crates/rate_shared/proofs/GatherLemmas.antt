-- Callers that are joined into one, and what it sees at the end.
use Rattle.std.proofs.Common.{◌≡◌, ℕ, ◌+◌, ◌<◌, ◌≤◌, List, [], ◌∷◌, ◌++◌, All, map, length, refl, sym, ap, ◌∙◌, subst, append_assoc, le_refl, arith}
use Rattle.std.proofs.lemmas.List.Elements.{All-nil, All-cons, All-head, All-tail, All-push}
use Rattle.rate_plain.specs.declared.entry.Entry.{Entry}
use Rattle.rate_shared.specs.declared.rule.Shape.{Shape}
use Rattle.rate_shared.specs.declared.rule.Known.{Known}
use Rattle.rate_shared.specs.declared.seen.Seen.{Seen}
use Rattle.rate_shared.specs.Steps.{Sat, Shows, met, Saw}
use Rattle.rate_shared.specs.Hands.{Chair}
use Rattle.rate_shared.specs.Callers.{history_of}
use Rattle.rate_shared.specs.Close.{StandsIn, Gathers}
use Rattle.rate_shared.proofs.SeenLemmas.{known_by, keeping}

abbrev pub known_of : Seen → Known
known_of seen = known_by seen.caller (history_of seen)

-- the seat has taken in all callers but those that are left
pub record Joined (shape : Shape) (all left : List Seen) (me : Sat) : Type 0 where
  pub first : Seen
  pub of : first.seat.me.0.shape ≡ shape
  pub others : List Seen
  pub items : left ++ (others ++ first ∷ []) ≡ all
  pub view : me ≡ keeping shape first.caller (history_of first) (map known_of others)

-- a caller's seat alone
pub joined_first : (shape : Shape) (all left : List Seen) (first : Seen) → first.seat.me.0.shape ≡ shape → all ≡ left ++ first ∷ [] → Joined shape all left first.seat.me
joined_first shape all left first of items = record {
  first = first;
  of = of;
  others = [];
  items = sym items;
  view = first.ready.idle ∙ ap (λ z. keeping z first.caller (history_of first) []) of;
}

-- one more
pub joined_more : (shape : Shape) (all before left : List Seen) (seen : Seen) (me me' : Sat) → Joined shape all before me → before ≡ left ++ seen ∷ [] → me' ≡ (met me.0 seen.seat.me.0, me.1) → Joined shape all left me'
joined_more shape all before left seen me me' j cut now =
    let known : seen.seat.me.0.known ≡ known_of seen = ap (λ (m : Sat). m.0.known) seen.ready.idle in record {
      first = j.first;
      of = j.of;
      others = seen ∷ j.others;
      items = sym (append_assoc left (seen ∷ []) (j.others ++ j.first ∷ [])) ∙ ap (λ l. l ++ (j.others ++ j.first ∷ [])) (sym cut) ∙ j.items;
      view = now ∙ ap (λ (m : Sat). let m' : Sat = (met m.0 seen.seat.me.0, m.1) in m') j.view
          ∙ ap (λ k. keeping shape j.first.caller (history_of j.first) (k ∷ map known_of j.others)) known;
    }

-- the seat's table has lanes
pub joined_lanes : (shape : Shape) (all left : List Seen) (me : Sat) → Joined shape all left me → 0 < me.0.shape.lanes
joined_lanes shape all left me j =
    subst (λ (n : ℕ). 0 < n) (ap (λ (z : Shape). z.lanes) j.of ∙ sym (ap (λ (m : Sat). m.0.shape.lanes) j.view)) j.first.ready.shape.lanes.0

module _ (shape : Shape) (history : List Entry) where
  stands : (seen : Seen) → Shows shape history (known_of seen) → StandsIn history seen
  stands seen told = record { begins = told.seen; own = told.own seen.caller (le_refl seen.caller) (omega arith) }

  stand_all : (seens : List Seen) → All (Shows shape history) (map known_of seens) → All (StandsIn history) seens
  stand_all [] told = All-nil (StandsIn history)
  stand_all (seen ∷ seens) told =
      All-cons (StandsIn history) seen seens (stands seen (All-head (Shows shape history) (known_of seen) (map known_of seens) told))
      (stand_all seens (All-tail (Shows shape history) (known_of seen) (map known_of seens) told))

pub gathered : (shape : Shape) (all left : List Seen) (me me' : Sat) (n : ℕ) → Joined shape all left me → left ≡ [] → Saw me n me' → Gathers shape all n
gathered shape all left me me' n j none saw =
    let history : List Entry = saw.0 in
    let first : Shows shape history (known_of j.first) = subst (λ (m : Sat). Shows m.0.shape history m.0.known) j.view saw.2 in
    let others : All (Shows shape history) (map known_of j.others) = subst (λ (m : Sat). All (Shows m.0.shape history) m.0.kept) j.view saw.3 in record {
      history = history;
      long = saw.4;
      legal = first.legal;
      by_callers = subst (λ (m : Sat). All (λ entry. entry.caller < m.0.shape.callers) history) j.view saw.5;
      each = subst (All (StandsIn history)) (ap (λ l. l ++ (j.others ++ j.first ∷ [])) (sym none) ∙ j.items)
          (All-push (StandsIn history) j.others j.first (stand_all shape history j.others others) (stands shape history j.first first));
    }
