-- Callers by their numbers: one that is looked up, and one that comes to another state.
use Rattle.std.proofs.Common.{◌≡◌, ℕ, zero, suc, List, [], ◌∷◌, Option, None, Some, slice_get, slice_set, replicate, refl, sym, ap, subst, ◌∙◌}
use Rattle.ruleset_model.specs.ConfigParts.{ConfigParts}
use Rattle.judge_core.specs.Values.{Listed}
use Rattle.edge_core.specs.declared.caller.Caller.{Caller}
use Rattle.edge_core.specs.declared.caller.Caller.TheVariants as caller
use Rattle.edge_core.specs.World.{CallerParts}
use Rattle.edge_core.specs.World as here
use Rattle.edge_core.specs.Stands.{IsCaller, AreCallers}

module _ (meaning : ConfigParts → Listed) where
  -- a caller that is looked up stands for the one that is looked up
  abbrev pub IsSomeCaller : Option Caller → Option CallerParts → Type 0
  IsSomeCaller None None = Unit {0}
  IsSomeCaller None (Some other) = ⊥
  IsSomeCaller (Some one) None = ⊥
  IsSomeCaller (Some one) (Some other) = IsCaller meaning one other

  pub get_callers : (ones : List Caller) (others : List CallerParts) (k : ℕ) → AreCallers meaning ones others → IsSomeCaller (slice_get ones k) (slice_get others k)
  get_callers [] [] k are = tt
  get_callers [] (other ∷ others) k are = absurd are
  get_callers (one ∷ ones) [] k are = absurd are
  get_callers (one ∷ ones) (other ∷ others) zero are = are.0
  get_callers (one ∷ ones) (other ∷ others) (suc k) are = get_callers ones others k are.1

  pub set_callers : (ones : List Caller) (others : List CallerParts) (k : ℕ) (one : Caller) (other : CallerParts) → AreCallers meaning ones others → IsCaller meaning one other → AreCallers meaning (slice_set ones k one) (slice_set others k other)
  set_callers [] [] k one other are is = tt
  set_callers [] (o ∷ others) k one other are is = absurd are
  set_callers (c ∷ ones) [] k one other are is = absurd are
  set_callers (c ∷ ones) (o ∷ others) zero one other are is = (is, are.1)
  set_callers (c ∷ ones) (o ∷ others) (suc k) one other are is = (are.0, set_callers ones others k one other are.1 is)

  pub idle_callers : (n : ℕ) → AreCallers meaning (replicate n caller.Idle) (replicate n here.Idle)
  idle_callers zero = tt
  idle_callers (suc n) = (tt, idle_callers n)

  -- there is such a caller on both sides
  abbrev pub IsFound : Caller → Option CallerParts → Type 0
  IsFound one found = (other : CallerParts) × (found ≡ Some other) × IsCaller meaning one other

  some_found : (one : Caller) (found : Option CallerParts) → IsSomeCaller (Some one) found → IsFound one found
  some_found one None is = absurd is
  some_found one (Some other) is = (other, refl, is)

  none_found : (found : Option CallerParts) → IsSomeCaller None found → found ≡ None
  none_found None is = refl
  none_found (Some other) is = absurd is

  pub found_at : (ones : List Caller) (others : List CallerParts) (k : ℕ) (one : Caller) → AreCallers meaning ones others → slice_get ones k ≡ Some one → IsFound one (slice_get others k)
  found_at ones others k one are is = some_found one (slice_get others k) (subst (λ found. IsSomeCaller found (slice_get others k)) is (get_callers ones others k are))

  pub not_found_at : (ones : List Caller) (others : List CallerParts) (k : ℕ) → AreCallers meaning ones others → slice_get ones k ≡ None → slice_get others k ≡ None
  not_found_at ones others k are is = none_found (slice_get others k) (subst (λ found. IsSomeCaller found (slice_get others k)) is (get_callers ones others k are))
