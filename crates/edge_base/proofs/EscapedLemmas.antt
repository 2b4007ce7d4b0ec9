-- Escaping goes byte by byte.
use Rattle.std.proofs.Common.{◌≡◌, ℕ, ◌+◌, ◌<◌, List, [], ◌∷◌, ◌++◌, length, take, get_or, refl, sym, ◌∙◌, ap, append_assoc, append-nil}
use Rattle.std.proofs.lemmas.List.{take_more}
use Rattle.edge_base.specs.Printed.{escaped_byte, escaped}

pub escaped-append : (xs ys : List ℕ) → escaped (xs ++ ys) ≡ escaped xs ++ escaped ys
escaped-append [] ys = refl
escaped-append (x ∷ xs) ys =
    ap (λ rest. escaped_byte x ++ rest) (escaped-append xs ys)
    ∙ sym (append_assoc (escaped_byte x) (escaped xs) (escaped ys))

pub escaped-take_more : (text : List ℕ) (i : ℕ) → i < length text → escaped (take (i + 1) text) ≡ escaped (take i text) ++ escaped_byte (get_or text i 0)
escaped-take_more text i below =
    ap escaped (take_more text i 0 below)
    ∙ escaped-append (take i text) (get_or text i 0 ∷ [])
    ∙ ap (λ rest. escaped (take i text) ++ rest) (append-nil (escaped_byte (get_or text i 0)))
