-- What a whole step leaves of a seat, and what it tells.
use Rattle.std.proofs.Common.{◌≡◌, ℕ, ◌+◌, ◌<◌, ◌≤◌, List, [], ◌∷◌, ◌++◌, All, length, MatchResult, refl, sym, ap, ◌∙◌, subst, le_refl, arith, Option}
use Rattle.std.specs.declared.result.Result.{Result}
use Rattle.std.specs.declared.result.Result.TheVariants.{Ok, Err}
use Rattle.std.proofs.lemmas.List.{length_push}
use Rattle.edge_base.specs.declared.refusal.Memory.{Memory}
use Rattle.rate_plain.specs.History.{IsLegal}
use Rattle.rate_plain.specs.declared.entry.Ask.{Ask}
use Rattle.rate_plain.specs.declared.entry.Entry.{Entry}
use Rattle.rate_plain.specs.declared.entry.Counted.{Counted}
use Rattle.rate_lane.specs.declared.lane.Lane.{Lane}
use Rattle.rate_shared.specs.declared.rule.Shape.{Shape}
use Rattle.rate_shared.specs.declared.rule.Known.{Known}
use Rattle.rate_shared.specs.declared.rule.View.{View}
use Rattle.rate_shared.specs.Rule.{turn_word, knowing}
use Rattle.rate_shared.specs.Steps.{Sat, Shows, turned, going_on, drawn, Drew}
use Rattle.rate_shared.specs.Hands.{resting, seen_of, holding, next_entry}
use Rattle.rate_shared.specs.Promise.{Counts}

-- the seat before a step, with the lane in hand, after the draw, and at the end
module _ (shape : Shape) (caller lane : ℕ) (seen : List Entry) (m2 m3 m5 : Sat) (view : m2.0 ≡ holding shape caller seen lane m2.0.mine) where
  step_end : m3.0 ≡ going_on m2.0 (seen_of m3) m3.0.mine → m5 ≡ (turned m3.0 0 [], []) → m5 ≡ resting shape caller (seen_of m3)
  step_end went gave =
      let p = went ∙ ap (λ (v : View). going_on v (seen_of m3) m3.0.mine) view in
      gave ∙ ap (λ (v : View). let m : Sat = (turned v 0 [], []) in m) p

  pub step_idle : m3.0 ≡ going_on m2.0 (seen_of m3) m3.0.mine → m5 ≡ (turned m3.0 0 [], []) → m5 ≡ resting shape caller (seen_of m5)
  step_idle went gave = let e = step_end went gave in e ∙ ap (resting shape caller) (sym (ap seen_of e))

  pub step_tells : (ask : Ask) (result : Result Counted Memory) → seen_of m5 ≡ seen_of m3
      → MatchResult result (λ c. (next_entry m2 caller ask).answer ≡ c.answer) (λ _. Unit {0})
      → MatchResult result (λ c. Drew (next_entry m2 caller ask) m2 c.position m3) (λ _. m3 ≡ m2)
      → MatchResult result (λ c. Counts shape caller seen (seen_of m5) ask c) (λ _. seen_of m5 ≡ seen)
  step_tells ask (Err e) same answer drew = same ∙ ap seen_of drew ∙ ap (λ (v : View). v.known.seen) view
  step_tells ask (Ok c) same answer drew =
      let entry : Entry = next_entry m2 caller ask in
      let between : List Entry = drew.0 in
      let grown : seen_of m5 ≡ between ++ entry ∷ [] = same ∙ ap seen_of drew.1 in
      let known : m2.0.known ≡ record { from = caller; to = caller + 1; seen = seen } = ap (λ (v : View). v.known) view in
      let shape_is : m2.0.shape ≡ shape = ap (λ (v : View). v.shape) view in
      let shows : Shows shape between record { from = caller; to = caller + 1; seen = seen } = subst (λ (z : Shape × Known). Shows z.0 between z.1) (λ i. (shape_is i, known i)) drew.2 in
      let legal : IsLegal shape.lanes shape.cap (between ++ entry ∷ []) = subst (λ (z : Shape). IsLegal z.lanes z.cap (between ++ entry ∷ [])) shape_is drew.4 in
      let by_callers : All (λ e. e.caller < shape.callers) (between ++ entry ∷ []) = subst (λ (z : Shape). All (λ e. e.caller < z.callers) (between ++ entry ∷ [])) shape_is drew.5 in
      record {
        between = between;
        entry = entry;
        grown = grown;
        seen = shows.seen;
        own = shows.own caller (le_refl caller) (omega arith);
        legal = subst (IsLegal shape.lanes shape.cap) (sym grown) legal;
        by_callers = subst (All (λ (e : Entry). e.caller < shape.callers)) (sym grown) by_callers;
        its = refl;
        asked = refl;
        answer = answer;
        position = ap length grown ∙ omega (arith, length_push between entry, drew.3);
      }
