use Rattle.std.proofs.Common.{ℕ, List, [], ◌∷◌, ◌++◌, refl, subst, sym}
use Rattle.std.specs.List.{IsDistinct}
use Rattle.edge_fields.specs.declared.kind.Basic.TheVariants as basic
use Rattle.edge_fields.specs.Schemes.{AreLists}
use Rattle.base_tests.proofs.fields.office.Goals as goal

one_list : (name : List ℕ) → AreLists ((name, basic.Addr) ∷ [])
unfolding IsDistinct
one_list name = record { distinct = (tt, tt); kinds = refl }

pub returns : goal.returns
returns c =
    let name = c.in_ok-of.field-0 in
    subst AreLists (sym c.in_ok-push.ensures.ok) (subst (λ front. AreLists (front ++ (name, basic.Addr) ∷ [])) (sym c.new-lists.ensures) (one_list name))
