-- The bytes of a list's elements, one element more.
use Rattle.std.proofs.Common.{◌≡◌, ℕ, ℤ, ◌+◌, ◌<◌, List, [], ◌∷◌, ◌++◌, length, take, map, get_or, sym, ap, ap₂, ◌∙◌}
use Rattle.std.specs.Int.{cast_unsigned, to_be_bytes, w64}
use Rattle.std.specs.List.{concat}
use Rattle.std.proofs.lemmas.List.{take_more, map-append, append-nil}
use Rattle.std.proofs.lemmas.List.Folds.{concat-append}
use Rattle.judge_core.specs.Limits.{number_bytes}

pub concat_more : {X : Type 0} (f : X → List ℕ) (xs : List X) (i : ℕ) (x : X) (text : List ℕ) → i < length xs → x ≡ get_or xs i x
    → text ≡ concat (map f (take i xs)) → text ++ f x ≡ concat (map f (take (i + 1) xs))
concat_more f xs i x text within is past =
    ap₂ (λ front last. front ++ last) past (ap f is)
    ∙ sym (ap (λ l. concat (map f l)) (take_more xs i x within)
    ∙ ap concat (map-append f (take i xs) (get_or xs i x ∷ []))
    ∙ concat-append (map f (take i xs)) (f (get_or xs i x) ∷ [])
    ∙ ap (λ l. concat (map f (take i xs)) ++ l) (append-nil (f (get_or xs i x))))

-- the bytes of a number are those of its bits
pub number_written : (number : ℤ) (bits : ℕ) (bytes : List ℕ) → bits ≡ cast_unsigned w64 number → bytes ≡ to_be_bytes w64 bits
    → bytes ≡ number_bytes number
unfolding number_bytes
number_written number bits bytes same written = written ∙ ap (to_be_bytes w64) same
