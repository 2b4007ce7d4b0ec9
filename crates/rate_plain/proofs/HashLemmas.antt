-- A text is hashed piece by piece.
use Rattle.std.proofs.Common.{◌≡◌, ℕ, List, ◌++◌, ◌∙◌, sym, ap}
use Rattle.std.proofs.lemmas.List.Sums.{fold-append}
use Rattle.rate_plain.specs.Hash.{hash_step, fnv1a64_on, fnv1a64_of}

-- the hash of a front, gone on with a further piece
pub hash_goes_on : (front more piece : List ℕ) (hash next : ℕ) → hash ≡ fnv1a64_of front → piece ≡ more → next ≡ fnv1a64_on hash piece → next ≡ fnv1a64_of (front ++ more)
hash_goes_on front more piece hash next begun same gone =
    gone ∙ ap (λ h. fnv1a64_on h piece) begun ∙ ap (λ p. fnv1a64_on (fnv1a64_of front) p) same
    ∙ sym (fold-append hash_step 14695981039346656037 front more)
