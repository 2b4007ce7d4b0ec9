-- A legal history, from its first step on.
use Rattle.std.proofs.Common.{◌≡◌, ◌⊎◌, ℕ, zero, suc, ◌<◌, ◌≤◌, List, [], ◌∷◌, ◌++◌, length, get_or, take, inl, inr, sym, ap, ◌∙◌, subst, subst₂, arith, add-one}
use Rattle.std.proofs.lemmas.Bool.{cases_lt}
use Rattle.std.proofs.lemmas.List.{take_more, take_all, take-take, take-append-le, take_at, get_or_append_left, get_or_push, get_or-take, length_push, length-take}
use Rattle.rate_plain.specs.History.{Follows, IsLegal}
use Rattle.rate_plain.specs.declared.entry.Entry.{Entry}

-- what holds of no steps, and with each step that follows, holds of a legal history
pub by_steps : (lanes cap : ℕ) (P : List Entry → Type 0) → P [] → ((before : List Entry) (entry : Entry) → Follows lanes cap before entry → P before → P (before ++ entry ∷ [])) → (history : List Entry) → IsLegal lanes cap history → P history
by_steps lanes cap P none more [] legal = none
by_steps lanes cap P none more (e ∷ es) legal = subst P (take_all (length (e ∷ es)) (e ∷ es) (omega arith)) (go (length (e ∷ es)) (omega arith))
  where
    go : (n : ℕ) → n ≤ length (e ∷ es) → P (take n (e ∷ es))
    go zero below = none
    go (suc n) below =
        let within : n < length (e ∷ es) = omega arith in
        let shorter : n ≤ length (e ∷ es) = omega arith in
        let grown : take (suc n) (e ∷ es) ≡ take n (e ∷ es) ++ get_or (e ∷ es) n e ∷ [] = ap (λ k. take k (e ∷ es)) (sym (add-one n)) ∙ take_more (e ∷ es) n e within in
        subst P (sym grown) (more (take n (e ∷ es)) (get_or (e ∷ es) n e) (legal n e within) (go n shorter))

pub legal_none : (lanes cap : ℕ) → IsLegal lanes cap []
legal_none lanes cap k d below = absurd (lt_zero k below)
  where
    lt_zero : (k : ℕ) → k < 0 → ⊥
    lt_zero k h = omega arith

pub legal_more : (lanes cap : ℕ) (history : List Entry) (entry : Entry) → IsLegal lanes cap history → Follows lanes cap history entry → IsLegal lanes cap (history ++ entry ∷ [])
legal_more lanes cap history entry legal follows k d below = by (cases_lt k (length history))
  where
    by : (k < length history) ⊎ (length history ≤ k) → Follows lanes cap (take k (history ++ entry ∷ [])) (get_or (history ++ entry ∷ []) k d)
    by (inl earlier) =
        subst₂ (Follows lanes cap) (sym (take-append-le k history (entry ∷ []) (omega arith))) (sym (get_or_append_left history (entry ∷ []) d k earlier)) (legal k d earlier)
    by (inr late) =
        let last : length history ≡ k = omega (arith, length_push history entry) in
        subst₂ (Follows lanes cap) (sym (take_at history (entry ∷ []) k last)) (sym (get_or_push history entry d k last)) follows

pub legal_front : (lanes cap : ℕ) (history : List Entry) (n : ℕ) → IsLegal lanes cap history → IsLegal lanes cap (take n history)
legal_front lanes cap history n legal k d below =
    let sooner : k < n = omega (arith, length-take n history) in
    let within : k < length history = omega (arith, length-take n history) in
    subst₂ (Follows lanes cap) (sym (take-take k n history (omega arith))) (sym (get_or-take n history k d sooner)) (legal k d within)
