-- What a caller's seat is after each call.
use Rattle.std.proofs.Common.{◌≡◌, ℕ, ◌+◌, ◌^◌, ◌<◌, ◌≤◌, List, [], ◌∷◌, ◌++◌, All, length, refl, sym, ap, ◌∙◌, subst, le_refl, arith, Some, None}
use mathlib.Core.List.{IsPrefix}
use Rattle.std.proofs.lemmas.List.{length_push}
use Rattle.rate_plain.specs.History.{IsLegal, own_of}
use Rattle.rate_plain.specs.declared.entry.Ask.{Ask}
use Rattle.rate_plain.specs.declared.entry.Entry.{Entry}
use Rattle.rate_plain.specs.declared.entry.Counted.{Counted}
use Rattle.rate_lane.specs.Lane.{cap_of, IsLaneOf}
use Rattle.rate_lane.specs.declared.lane.Lane.{Lane}
use Rattle.rate_shared.specs.declared.rule.Shape.{Shape}
use Rattle.rate_shared.specs.declared.rule.Known.{Known}
use Rattle.rate_shared.specs.declared.rule.View.{View}
use Rattle.rate_shared.specs.Rule.{turn_word, knowing}
use Rattle.rate_shared.specs.Steps.{Sat, Shows, turned, seeing, IsInHand, Saw}
use Rattle.rate_shared.specs.Hands.{Chair, IsShape, resting, seen_of, IsReady, holding, IsHeld, IsOut}
use Rattle.rate_shared.specs.Promise.{Grows, Counts}
use Rattle.rate_shared.proofs.Counting.{own_with}

-- what a caller knows
abbrev pub known_by : ℕ → List Entry → Known
known_by caller seen = record { from = caller; to = caller + 1; seen = seen }

-- the seat of a caller that has taken in what others knew
abbrev pub keeping : Shape → ℕ → List Entry → List Known → Sat
keeping shape caller seen kept = (record (knowing shape caller (caller + 1) seen) { kept = kept }, [])

-- a caller's seat, by its parts
module _ (shape : Shape) (caller taken : ℕ) (fits : IsShape shape) (number : caller < shape.callers) (few : taken ≤ 2 ^ 40) where
  pub is_ready : (seat : Chair) (seen : List Entry) → seat.me ≡ resting shape caller seen → IsLegal shape.lanes shape.cap seen → All (λ entry. entry.caller < shape.callers) seen
      → taken ≡ length (own_of seen caller) → IsReady seat caller taken
  is_ready seat seen is legal by_callers its =
      let shape_is : shape ≡ seat.me.0.shape = sym (ap (λ (m : Sat). m.0.shape) is) in
      let seen_is : seen ≡ seen_of seat.me = sym (ap seen_of is) in record {
        idle = is ∙ (λ i. resting (shape_is i) caller (seen_is i));
        legal = subst (λ (z : Shape × List Entry). IsLegal z.0.lanes z.0.cap z.1) (λ i. (shape_is i, seen_is i)) legal;
        by_callers = subst (λ (z : Shape × List Entry). All (λ entry. entry.caller < z.0.callers) z.1) (λ i. (shape_is i, seen_is i)) by_callers;
        its = its ∙ ap (λ h. length (own_of h caller)) seen_is;
        few = few;
        shape = subst IsShape shape_is fits;
        number = subst (λ (z : Shape). caller < z.callers) shape_is number;
      }

-- the whole history was seen, and all that was taken in begins it
pub record Looked (shape : Shape) (caller taken n : ℕ) (seen : List Entry) (known : List Known) (new : Chair) : Type 0 where
  pub ready : IsReady new caller taken
  pub shape_is : new.me.0.shape ≡ shape
  pub grows : Grows shape caller seen (seen_of new.me)
  pub long : n ≡ length (seen_of new.me)
  pub kept : All (Shows shape (seen_of new.me)) known

pub looked : (shape : Shape) (caller taken n : ℕ) (seen : List Entry) (kept : List Known) (old : Sat) (new : Chair) → old ≡ keeping shape caller seen kept
    → IsShape shape → caller < shape.callers → taken ≤ 2 ^ 40 → taken ≡ length (own_of seen caller) → Saw old n new.me → Looked shape caller taken n seen kept new
looked shape caller taken n seen kept old new was fits number few its looks =
    let history : List Entry = looks.0 in
    let is : new.me ≡ resting shape caller history = looks.1 ∙ ap (λ (m : Sat). let m' : Sat = (seeing m.0 history, m.1) in m') was in
    let seen_is : history ≡ seen_of new.me = sym (ap seen_of is) in
    let told : Shows shape history (known_by caller seen) = subst (λ (m : Sat). Shows m.0.shape history m.0.known) was looks.2 in
    let by_callers : All (λ entry. entry.caller < shape.callers) history = subst (λ (m : Sat). All (λ entry. entry.caller < m.0.shape.callers) history) was looks.5 in
    let own : own_of history caller ≡ own_of seen caller = told.own caller (le_refl caller) (omega arith) in record {
      ready = is_ready shape caller taken fits number few new history is told.legal by_callers (its ∙ ap length (sym own));
      shape_is = ap (λ (m : Sat). m.0.shape) is;
      grows = subst (Grows shape caller seen) seen_is record { seen = told.seen; legal = told.legal; by_callers = by_callers; own = own };
      long = sym looks.4 ∙ ap length seen_is;
      kept = subst (λ (h : List Entry). All (Shows shape h) kept) seen_is (subst (λ (m : Sat). All (Shows m.0.shape history) m.0.kept) was looks.3);
    }

module _ (old new : Chair) (caller taken : ℕ) (ready : IsReady old caller taken) (idle : new.me ≡ resting old.me.0.shape caller (seen_of new.me)) where
  -- after a step
  pub counted_ready : (ask : Ask) (c : Counted) → taken < 2 ^ 40 → Counts old.me.0.shape caller (seen_of old.me) (seen_of new.me) ask c → IsReady new caller (taken + 1)
  counted_ready ask c room counts =
      let own : own_of (seen_of new.me) caller ≡ own_of (seen_of old.me) caller ++ counts.entry ∷ [] =
      ap (λ h. own_of h caller) counts.grown ∙ own_with counts.between counts.entry caller counts.its ∙ ap (λ es. es ++ counts.entry ∷ []) counts.own in
      is_ready old.me.0.shape caller (taken + 1) ready.shape ready.number (omega arith) new (seen_of new.me) idle counts.legal counts.by_callers
      (omega (arith, ready.its, ap length own, length_push (own_of (seen_of old.me) caller) counts.entry))

  -- after a refusal
  pub refused_ready : seen_of new.me ≡ seen_of old.me → IsReady new caller taken
  refused_ready same =
      is_ready old.me.0.shape caller taken ready.shape ready.number ready.few new (seen_of new.me) idle
      (subst (IsLegal old.me.0.shape.lanes old.me.0.shape.cap) (sym same) ready.legal)
      (subst (All (λ (entry : Entry). entry.caller < old.me.0.shape.callers)) (sym same) ready.by_callers) (ready.its ∙ ap (λ h. length (own_of h caller)) (sym same))

-- a caller that has taken a lane out
module _ (s0 s1 s2 : Chair) (caller taken lane : ℕ) (x : Lane) (ready : IsReady s0 caller taken) (took : s1.me.0 ≡ turned s0.me.0 (turn_word lane) s1.me.0.mine) (out : s2.me ≡ (s1.me.0, (lane, None) ∷ [])) where
  held_view : s2.me.0 ≡ holding s0.me.0.shape caller (seen_of s0.me) lane s1.me.0.mine
  held_view = ap (λ (m : Sat). m.0) out ∙ took ∙ ap (λ (m : Sat). turned m.0 (turn_word lane) s1.me.0.mine) ready.idle

  pub held_shape : s2.me.0.shape ≡ s0.me.0.shape
  held_shape = ap (λ (v : View). v.shape) held_view

  pub held_seen : seen_of s2.me ≡ seen_of s0.me
  held_seen = ap (λ (v : View). v.known.seen) held_view

  pub is_held : IsInHand s1.me.0.shape x s1.me.0.mine → lane < s0.me.0.shape.lanes → IsHeld s2 caller taken lane x
  is_held hand below =
      let mine : s1.me.0.mine ≡ s2.me.0.mine = sym (ap (λ (m : Sat). m.0.mine) out) in record {
        view = held_view ∙ (λ i. holding (sym held_shape i) caller (sym held_seen i) lane (mine i));
        out = ap (λ (m : Sat). m.1) out;
        hand = (hand.0 ∙ sym (ap (λ (m : Sat). m.0.shape.cap) out), subst (IsLaneOf x) mine hand.1);
        legal = subst (λ (z : Shape × List Entry). IsLegal z.0.lanes z.0.cap z.1) (λ i. (sym held_shape i, sym held_seen i)) ready.legal;
        by_callers = subst (λ (z : Shape × List Entry). All (λ entry. entry.caller < z.0.callers) z.1) (λ i. (sym held_shape i, sym held_seen i)) ready.by_callers;
        its = ready.its ∙ ap (λ h. length (own_of h caller)) (sym held_seen);
        few = ready.few;
        shape = subst IsShape (sym held_shape) ready.shape;
        by = subst (λ (z : Shape). caller < z.callers) (sym held_shape) ready.number;
        below = subst (λ (z : Shape). lane < z.lanes) (sym held_shape) below;
      }

-- a caller that puts a lane back
module _ (s0 s1 s2 : Chair) (caller taken lane : ℕ) (x : Lane) (held : IsHeld s0 caller taken lane x) (back : s1.me ≡ (s0.me.0, (lane, Some x) ∷ [])) where
  pub back_out : IsOut lane s1.me
  back_out = (
    x,
    ap (λ (m : Sat). m.1) back,
    (held.hand.0 ∙ sym (ap (λ (m : Sat). m.0.shape.cap) back), subst (IsLaneOf x) (sym (ap (λ (m : Sat). m.0.mine) back)) held.hand.1),
  )

  pub back_turn : s1.me.0.turn ≡ turn_word lane
  back_turn = ap (λ (m : Sat). m.0.turn) back ∙ ap (λ (v : View). v.turn) held.view

  pub released : s2.me ≡ (turned s1.me.0 0 [], []) → s2.me ≡ resting s0.me.0.shape caller (seen_of s0.me)
  released gave =
      gave ∙ ap (λ (m : Sat). let m' : Sat = (turned m.0 0 [], []) in m') back ∙ ap (λ (v : View). let m' : Sat = (turned v 0 [], []) in m') held.view

  pub released_ready : s2.me ≡ (turned s1.me.0 0 [], []) → IsReady s2 caller taken
  released_ready gave = is_ready s0.me.0.shape caller taken held.shape held.by held.few s2 (seen_of s0.me) (released gave) held.legal held.by_callers held.its
