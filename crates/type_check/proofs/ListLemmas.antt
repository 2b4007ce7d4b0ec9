-- A list that isn't there has no kind.
use Rattle.std.proofs.Common.{◌≡◌, ℕ, suc, Bool, true, false, List, [], ◌∷◌, None, Some, refl, sym, ap, ◌∙◌, cond, bytes_eq, is_none, if◌then◌else◌, arith}
use Rattle.std.proofs.lemmas.Slice.Eq.{bytes_eq-Decides}
use Rattle.edge_base.specs.declared.expression.Test.TheVariants as test
use Rattle.edge_fields.specs.declared.kind.Basic.{Basic}
use Rattle.edge_fields.specs.Schemes.{IsUnlisted}
use Rattle.type_check.specs.declared.fault.TypeCause.TheVariants as cause
use Rattle.type_check.specs.TestKinds.{list_kind, list_causes}

unlisted_by : (list : List ℕ × Basic) (lists : List (List ℕ × Basic)) (name : List ℕ) (same : Bool) → bytes_eq name list.0 ≡ same → IsUnlisted (list ∷ lists) name
    → list_kind lists name ≡ None → cond same (Some list.1) (list_kind lists name) ≡ None
unlisted_by list lists name true same none further = absurd (none 0 list (omega arith) (sym ((bytes_eq-Decides name list.0).0 same)))
unlisted_by list lists name false same none further = further

list_kind-none : (lists : List (List ℕ × Basic)) (name : List ℕ) → IsUnlisted lists name → list_kind lists name ≡ None
list_kind-none [] name none = refl
list_kind-none (list ∷ lists) name none =
    unlisted_by list lists name (bytes_eq name list.0) refl none (list_kind-none lists name (λ k d below. none (suc k) d (omega arith)))

pub not_unlisted : (lists : List (List ℕ × Basic)) (name : List ℕ) → IsUnlisted lists name → list_causes lists (test.Listed name) ≡ [] → ⊥
not_unlisted lists name none known =
    let unknown : list_causes lists (test.Listed name) ≡ cause.UnknownList ∷ []
    = ap (λ kind. if is_none kind then cause.UnknownList ∷ [] else []) (list_kind-none lists name none) in
    let clash : cause.UnknownList ∷ [] ≡ [] = sym unknown ∙ known in
    absurd cc
