-- Names in places, byte after byte.
use Rattle.std.proofs.Common.{◌≡◌, ℕ, ◌+◌, ◌<◌, List, [], ◌∷◌, ◌++◌, length, get_or, take, refl, sym, ap, ◌∙◌, append_assoc, append-nil}
use Rattle.std.proofs.lemmas.List.{take_more}
use Rattle.edge_base.specs.Printed.{escaped}
use Rattle.config_read.specs.Places.{pointed, placed}

placed-append : (xs ys : List ℕ) → placed (xs ++ ys) ≡ placed xs ++ placed ys
placed-append [] ys = refl
placed-append (x ∷ xs) ys =
    ap (λ rest. escaped (pointed x) ++ rest) (placed-append xs ys)
    ∙ sym (append_assoc (escaped (pointed x)) (placed xs) (placed ys))

pub placed-take_more : (name : List ℕ) (i : ℕ) → i < length name → placed (take (i + 1) name) ≡ placed (take i name) ++ escaped (pointed (get_or name i 0))
placed-take_more name i below =
    ap placed (take_more name i 0 below)
    ∙ placed-append (take i name) (get_or name i 0 ∷ [])
    ∙ ap (λ rest. placed (take i name) ++ rest) (append-nil (escaped (pointed (get_or name i 0))))
