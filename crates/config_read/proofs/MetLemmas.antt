-- A reading comes to something.
use Rattle.std.proofs.Common.{◌⊎◌, Bool, true, false, List, [], ◌∷◌, ◌++◌, None, Some, ℕ, refl, inl, inr}
use Rattle.config_read.specs.declared.fault.Cause.{Cause}
use Rattle.config_read.specs.Refusals.{Refusal, Table, ◌▸◌, nothing, refuse, refuse_unless, each}
use Rattle.config_read.specs.Answered.{IsMet}

pub met_nothing : IsMet nothing
met_nothing = record { found = inl refl }

pub met_refuse : (place : List ℕ) (cause : Cause) (test : Bool) → IsMet (refuse place cause test)
met_refuse place cause true = record { found = inr (record { place = place; cause = cause }, (refl, refl)) }
met_refuse place cause false = record { found = inl refl }

pub met_unless : (place : List ℕ) (cause : Cause) (Fact : Type 0) → Fact ⊎ (¬ Fact) → IsMet (refuse_unless place cause Fact)
met_unless place cause Fact (inl fact) = record { found = inl fact }
met_unless place cause Fact (inr none) = record { found = inr (record { place = place; cause = cause }, (none, refl)) }

pub met_then : (a b : Table) → IsMet a → IsMet b → IsMet (a ▸ b)
met_then a b ma mb = of_first ma.found mb.found where
  of_first : a None ⊎ ((r : Refusal) × a (Some r)) → b None ⊎ ((r : Refusal) × b (Some r)) → IsMet (a ▸ b)
  of_first (inr (r, refused)) other = record { found = inr (r, inl refused) }
  of_first (inl passed) (inl also) = record { found = inl (passed, also) }
  of_first (inl passed) (inr (r, refused)) = record { found = inr (r, inr (passed, refused)) }

pub met_each : {D X : Type 0} (table : List X → D → Table) (stands : D → X) → ((earlier : List X) (d : D) → IsMet (table earlier d))
    → (earlier : List X) (ds : List D) → IsMet (each table stands earlier ds)
met_each table stands met earlier [] = met_nothing
met_each table stands met earlier (d ∷ ds) =
    met_then (table earlier d) (each table stands (earlier ++ stands d ∷ []) ds) (met earlier d)
    (met_each table stands met (earlier ++ stands d ∷ []) ds)
