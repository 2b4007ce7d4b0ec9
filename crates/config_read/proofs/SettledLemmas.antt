-- A reading comes to one thing.
use Rattle.std.proofs.Common.{Bool, true≢false, List, [], ◌∷◌, ◌++◌, None, Some, ℕ, refl, sym, ap, ◌∙◌, inl, inr}
use Rattle.config_read.specs.declared.fault.Cause.{Cause}
use Rattle.config_read.specs.Refusals.{Refusal, Table, ◌▸◌, nothing, refuse, refuse_unless, each, IsSettled}

pub settled_nothing : IsSettled nothing
settled_nothing a b h k = h ∙ sym k

pub settled_refuse : (place : List ℕ) (cause : Cause) (test : Bool) → IsSettled (refuse place cause test)
settled_refuse place cause test None None h k = refl
settled_refuse place cause test None (Some r) h k = absurd (true≢false (sym k.0 ∙ h))
settled_refuse place cause test (Some q) None h k = absurd (true≢false (sym h.0 ∙ k))
settled_refuse place cause test (Some q) (Some r) h k = ap Some (h.1 ∙ sym k.1)

pub settled_unless : (place : List ℕ) (cause : Cause) (Fact : Type 0) → IsSettled (refuse_unless place cause Fact)
settled_unless place cause Fact None None h k = refl
settled_unless place cause Fact None (Some r) h k = absurd (k.0 h)
settled_unless place cause Fact (Some q) None h k = absurd (h.0 k)
settled_unless place cause Fact (Some q) (Some r) h k = ap Some (h.1 ∙ sym k.1)

-- a first part that passes isn't refused
never_both : (t : Table) (r : Refusal) → IsSettled t → t None → ¬ (t (Some r))
never_both t r settled h k = let same = settled None (Some r) h k in absurd cc

pub settled_then : (a b : Table) → IsSettled a → IsSettled b → IsSettled (a ▸ b)
settled_then a b sa sb None None h k = refl
settled_then a b sa sb None (Some r) h (inl k) = absurd (never_both a r sa h.0 k)
settled_then a b sa sb None (Some r) h (inr k) = absurd (never_both b r sb h.1 k.1)
settled_then a b sa sb (Some q) None (inl h) k = absurd (never_both a q sa k.0 h)
settled_then a b sa sb (Some q) None (inr h) k = absurd (never_both b q sb k.1 h.1)
settled_then a b sa sb (Some q) (Some r) (inl h) (inl k) = sa (Some q) (Some r) h k
settled_then a b sa sb (Some q) (Some r) (inl h) (inr k) = absurd (never_both a q sa k.0 h)
settled_then a b sa sb (Some q) (Some r) (inr h) (inl k) = absurd (never_both a r sa h.0 k)
settled_then a b sa sb (Some q) (Some r) (inr h) (inr k) = sb (Some q) (Some r) h.1 k.1

pub settled_each : {D X : Type 0} (table : List X → D → Table) (stands : D → X) → ((earlier : List X) (d : D) → IsSettled (table earlier d))
    → (earlier : List X) (ds : List D) → IsSettled (each table stands earlier ds)
settled_each table stands settled earlier [] = settled_nothing
settled_each table stands settled earlier (d ∷ ds) =
    settled_then (table earlier d) (each table stands (earlier ++ stands d ∷ []) ds) (settled earlier d)
    (settled_each table stands settled (earlier ++ stands d ∷ []) ds)
