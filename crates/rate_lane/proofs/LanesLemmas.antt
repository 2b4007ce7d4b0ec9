-- Several lanes after a step of one of them.
use Rattle.std.proofs.Common.{◌≡◌, ◌≢◌, ◌⊎◌, inl, inr, ℕ, ◌<◌, cond, ◌==◌, List, [], ◌∷◌, ◌++◌, length, set, get_or, sym, ap, ◌∙◌, subst, arith, eqb-true, eq-eqb, append-nil}
use Rattle.std.specs.declared.result.Result.TheVariants.{Ok}
use Rattle.std.proofs.lemmas.Bool.{false_from_ne_true, cases_eq}
use Rattle.std.proofs.lemmas.List.{get_or-set_same, get_or-set_other}
use Rattle.std.proofs.lemmas.List.Elements.{filter-append}
use Rattle.rate_plain.specs.Keys.{lane_of_key}
use Rattle.rate_plain.specs.Window.{entries_in, moment_of, answer_of}
use Rattle.rate_plain.specs.History.{entry_of}
use Rattle.rate_plain.specs.declared.entry.Ask.{Ask}
use Rattle.rate_plain.specs.declared.entry.Entry.{Entry}
use Rattle.rate_plain.specs.declared.entry.Answer.{Answer}
use Rattle.rate_plain.proofs.LaneLemmas.{moment_of-alone, answer_of-alone}
use Rattle.rate_lane.specs.Lane.{cap_of, IsLaneOf, StepsLane}
use Rattle.rate_lane.specs.Lanes.{IsLaneAt}
use Rattle.rate_lane.specs.declared.lane.Lane.{Lane}

module _ (items : List Lane) (count cap place : ℕ) (history : List Entry) (whole : length items ≡ count) (below : place < count) (each : (p : ℕ) (d : Lane) → p < count → IsLaneAt (get_or items p d) count cap history p) where
  -- where a list differs in the entries of one lane, the others stand for it too
  placed : (after : Lane) (now : List Entry) → IsLaneAt after count cap now place → ((p : ℕ) → p ≢ place → entries_in count p now ≡ entries_in count p history) → (p : ℕ) (d : Lane) → p < count → IsLaneAt (get_or (set items place after) p d) count cap now p
  placed after now its others p d within = by (cases_eq p place)
    where
      by : (p ≡ place) ⊎ (p ≢ place) → IsLaneAt (get_or (set items place after) p d) count cap now p
      by (inl same) =
          let there : get_or (set items place after) p d ≡ after = ap (λ i. get_or (set items place after) i d) same ∙ get_or-set_same items place after d (omega (arith, whole, below)) in
          subst (λ lane. IsLaneAt lane count cap now p) (sym there) (subst (IsLaneAt after count cap now) (sym same) its)
      by (inr other) =
          let was = each p d within in
          subst (λ lane. IsLaneAt lane count cap now p) (sym (get_or-set_other items place p after d other))
          (record { room = was.room; own = subst (IsLaneOf (get_or items p d)) (sym (others p other)) was.own })

  -- after a step of the asked key's lane
  pub lanes_after : (before after : Lane) (ask : Ask) (answer : Answer) → place ≡ lane_of_key count ask.key → before ≡ get_or items place before → StepsLane before after ask (Ok answer) → cap_of after ≡ cap_of before →
      (answer ≡ answer_of count cap history ask)
      × ((caller : ℕ) (p : ℕ) (d : Lane) → p < count → IsLaneAt (get_or (set items place after) p d) count cap (history ++ entry_of count cap history caller ask ∷ []) p)
  lanes_after before after ask answer at found steps room = (
    told,
    λ caller. placed after (history ++ entry_of count cap history caller ask ∷ []) (record { room = room ∙ was.room; own = goes caller }) (others caller),
  )
    where
      own : List Entry
      own = entries_in count place history

      was : IsLaneAt before count cap history place
      was = subst (λ lane. IsLaneAt lane count cap history place) (sym found) (each place before below)

      taken : (answer ≡ answer_of 1 (cap_of before) own ask) × ((caller : ℕ) → IsLaneOf after (own ++ entry_of 1 (cap_of before) own caller ask ∷ []))
      taken = steps own was.own

      alone : answer_of 1 (cap_of before) own ask ≡ answer_of count cap history ask
      alone = (λ i. answer_of 1 (was.room i) (entries_in count (at i) history) ask) ∙ answer_of-alone count cap history ask

      told : answer ≡ answer_of count cap history ask
      told = taken.0 ∙ alone

      entry : (caller : ℕ) → entry_of 1 (cap_of before) own caller ask ≡ entry_of count cap history caller ask
      entry caller =
          let moment = ap (λ n. moment_of 1 (entries_in count n history) ask.key ask.asked) at ∙ moment_of-alone count history ask.key ask.asked in
          λ i. record { caller = caller; key = ask.key; asked = ask.asked; at = moment i; adds = ask.adds; answer = alone i }

      more : (caller p : ℕ) → entries_in count p (history ++ entry_of count cap history caller ask ∷ []) ≡ entries_in count p history ++ cond (lane_of_key count ask.key == p) (entry_of count cap history caller ask ∷ []) []
      more caller p = filter-append (λ e. lane_of_key count e.key == p) history (entry_of count cap history caller ask ∷ [])

      goes : (caller : ℕ) → IsLaneOf after (entries_in count place (history ++ entry_of count cap history caller ask ∷ []))
      goes caller =
          subst (IsLaneOf after)
          ((λ i. own ++ entry caller i ∷ [])
          ∙ sym (ap (λ b. own ++ cond b (entry_of count cap history caller ask ∷ []) []) (eq-eqb (lane_of_key count ask.key) place (sym at)))
          ∙ sym (more caller place))
          (taken.1 caller)

      others : (caller p : ℕ) → p ≢ place → entries_in count p (history ++ entry_of count cap history caller ask ∷ []) ≡ entries_in count p history
      others caller p other =
          more caller p
          ∙ ap (λ b. entries_in count p history ++ cond b (entry_of count cap history caller ask ∷ []) []) (false_from_ne_true (lane_of_key count ask.key == p) (λ same. other (sym (at ∙ eqb-true (lane_of_key count ask.key) p same))))
          ∙ append-nil (entries_in count p history)
