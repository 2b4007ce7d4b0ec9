-- The lines of texts that are put together.
use Rattle.std.proofs.Common.{◌≡◌, ◌≢◌, ℕ, zero, suc, ◌<◌, List, [], ◌∷◌, ◌++◌, length, refl, ne_eqb, arith, suc-le-suc, le_of_suc-le-suc, zero-lt-suc}
use Rattle.edge_outside.specs.Lines.{lines_of, NoNewline}

pub NoNewline-nil : NoNewline []
NoNewline-nil k lt = absurd (omega arith)

pub NoNewline-one : (byte : ℕ) → byte ≢ 10 → NoNewline (byte ∷ [])
NoNewline-one byte other zero lt = other
NoNewline-one byte other (suc k) lt = absurd (omega arith)

NoNewline-rest : (byte : ℕ) (bytes : List ℕ) → NoNewline (byte ∷ bytes) → NoNewline bytes
NoNewline-rest byte bytes none k lt = none (suc k) (suc-le-suc lt)

pub NoNewline-append : (xs ys : List ℕ) → NoNewline xs → NoNewline ys → NoNewline (xs ++ ys)
NoNewline-append [] ys front back k lt = back k lt
NoNewline-append (x ∷ xs) ys front back zero lt = front zero (zero-lt-suc _)
NoNewline-append (x ∷ xs) ys front back (suc k) lt = NoNewline-append xs ys (NoNewline-rest x xs front) back k (le_of_suc-le-suc lt)

-- a line, its newline, and what follows
pub lines_of-line : (line rest : List ℕ) → NoNewline line → lines_of (line ++ 10 ∷ rest) ≡ line ∷ lines_of rest
lines_of-line [] rest none = refl
lines_of-line (byte ∷ line) rest none =
    let other = ne_eqb byte 10 (none zero (zero-lt-suc _)) in
    rw (other, lines_of-line line rest (NoNewline-rest byte line none)) refl

-- a last line without a newline
pub lines_of-last : (line : List ℕ) → NoNewline line → 0 < length line → lines_of line ≡ line ∷ []
lines_of-last [] none some = absurd (omega arith)
lines_of-last (byte ∷ []) none some =
    let other = ne_eqb byte 10 (none zero (zero-lt-suc _)) in rw other refl
lines_of-last (byte ∷ next ∷ line) none some =
    let other = ne_eqb byte 10 (none zero (zero-lt-suc _)) in
    rw (other, lines_of-last (next ∷ line) (NoNewline-rest byte (next ∷ line) none) (zero-lt-suc _)) refl
