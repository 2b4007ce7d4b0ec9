-- Lists whose names differ, with one more.
use Rattle.std.proofs.Common.{◌≡◌, ℕ, Bool, true, false, ◌||◌, List, [], ◌∷◌, ◌++◌, bytes_eq, refl, sym, ap, ◌∙◌, subst}
use Rattle.std.specs.List.{IsDistinct, list_any, list_all}
use Rattle.std.specs.Map.{keys_of}
use Rattle.std.proofs.lemmas.Bool.{and_from, and_parts}
use Rattle.std.specs.Cmp.Lexicographic.{nat_list_eq_equiv}
use Rattle.std.proofs.lemmas.Map.Keys.{IsDistinct-push}
use Rattle.edge_fields.specs.declared.kind.Basic.{Basic}
use Rattle.edge_fields.specs.Schemes.{is_list_kind, AreLists}
use Rattle.list_store.specs.declared.part.ListPart.{ListPart}
use Rattle.list_store.specs.Listed.{list_kinds_of}
use Rattle.list_store.specs.Parts.{is_named}

names-append : (lists : List ListPart) (x : ListPart) → keys_of (list_kinds_of (lists ++ x ∷ [])) ≡ keys_of (list_kinds_of lists) ++ x.name ∷ []
names-append [] x = refl
names-append (y ∷ ys) x = ap (λ rest. y.name ∷ rest) (names-append ys x)

named_among : (lists : List ListPart) (name : List ℕ) → list_any (bytes_eq name) (keys_of (list_kinds_of lists)) ≡ is_named lists name
named_among [] name = refl
named_among (y ∷ ys) name = ap (λ rest. bytes_eq name y.name || rest) (named_among ys name)

abbrev has_kind : List ℕ × Basic → Bool
has_kind list = is_list_kind list.1

kinds_more : (lists : List ListPart) (x : ListPart) → list_all has_kind (list_kinds_of lists) ≡ true → is_list_kind x.kind ≡ true
    → list_all has_kind (list_kinds_of (lists ++ x ∷ [])) ≡ true
kinds_more [] x h kind = and_from _ _ kind refl
kinds_more (y ∷ ys) x h kind = let parts = and_parts _ _ h in and_from _ _ parts.0 (kinds_more ys x parts.1 kind)

pub one_more : (lists : List ListPart) (x : ListPart) → AreLists (list_kinds_of lists) → is_named lists x.name ≡ false → is_list_kind x.kind ≡ true
    → AreLists (list_kinds_of (lists ++ x ∷ []))
one_more lists x fine new kind = record {
  distinct = subst (IsDistinct bytes_eq) (sym (names-append lists x)) (IsDistinct-push nat_list_eq_equiv (keys_of (list_kinds_of lists)) x.name fine.distinct (named_among lists x.name ∙ new));
  kinds = kinds_more lists x fine.kinds kind;
}

pub none_named : AreLists []
unfolding IsDistinct
none_named = record { distinct = tt; kinds = refl }
