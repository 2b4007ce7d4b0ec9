-- Callers that have seen nothing, one more at a time.
use Rattle.std.proofs.Common.{◌≡◌, ◌⊎◌, ℕ, ◌+◌, ◌<◌, ◌≤◌, ◌^◌, List, [], ◌∷◌, ◌++◌, length, get_or, inl, inr, refl, sym, ap, ◌∙◌, subst, arith}
use Rattle.std.proofs.lemmas.Bool.{cases_lt}
use Rattle.std.proofs.lemmas.List.{get_or_append_left, get_or_push, length_push}
use Rattle.std.proofs.lemmas.List.Elements.{All-nil}
use Rattle.atomic_table.specs.Seated.{TableId}
use Rattle.rate_plain.specs.declared.entry.Entry.{Entry}
use Rattle.rate_plain.proofs.LegalLemmas.{legal_none}
use Rattle.rate_shared.specs.declared.rule.Shape.{Shape}
use Rattle.rate_shared.specs.declared.rule.View.{View}
use Rattle.rate_shared.specs.declared.seen.Seen.{Seen}
use Rattle.rate_shared.specs.Rule.{knowing}
use Rattle.rate_shared.specs.Steps.{Sat, numbered}
use Rattle.rate_shared.specs.Hands.{Chair, IsShape, IsReady, resting}
use Rattle.rate_shared.specs.Callers.{Opens, AllOpen}
use Rattle.rate_shared.proofs.SeenLemmas.{is_ready}

pub all_open_push : (table : TableId) (shape : Shape) (seens : List Seen) (seen : Seen) → AllOpen table shape seens → Opens table shape (length seens) seen → AllOpen table shape (seens ++ seen ∷ [])
all_open_push table shape seens seen all one k d below = by (cases_lt k (length seens))
  where
    by : (k < length seens) ⊎ (length seens ≤ k) → Opens table shape k (get_or (seens ++ seen ∷ []) k d)
    by (inl earlier) = subst (Opens table shape k) (sym (get_or_append_left seens (seen ∷ []) d k earlier)) (all k d earlier)
    by (inr late) =
        let last : length seens ≡ k = omega (arith, length_push seens seen) in
        subst (Opens table shape k) (sym (get_or_push seens seen d k last)) (subst (λ n. Opens table shape n seen) last one)

-- the new seat of a split is the next caller's
pub opens_ready : (shape : Shape) (caller to : ℕ) (old : Sat) (seat : Chair) → old ≡ (knowing shape caller to [], []) → seat.me ≡ (numbered old.0, []) → IsShape shape → caller < shape.callers
    → (seat.me ≡ resting shape caller []) × IsReady seat caller 0
opens_ready shape caller to old seat was now fits number =
    let is : seat.me ≡ resting shape caller [] = now ∙ ap (λ (m : Sat). let m' : Sat = (numbered m.0, []) in m') was in (
      is,
      is_ready shape caller 0 fits number (omega arith) seat [] is (legal_none shape.lanes shape.cap)
          (All-nil (λ (entry : Entry). entry.caller < shape.callers)) refl,
    )
