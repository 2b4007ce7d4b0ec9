-- A text begins with marks where its front is of marks.
use Rattle.std.proofs.Common.{◌≡◌, ℕ, zero, suc, ◌≤◌, ◌&&◌, ◌==◌, nat_eq, List, [], ◌∷◌, length, take, replicate, refl, ap, ◌∙◌, sym, arith}
use Rattle.std.specs.List.{list_all, starts_with}
use Rattle.std.specs.Cmp.Lexicographic.{pointwise}
use Rattle.std.proofs.Math.ListN.{length-replicate}
use Rattle.std.proofs.lemmas.Bool.Decides.{nat_tests}

marks_pointwise : (marks : ℕ) (text : List ℕ) → marks ≤ length text → list_all (λ byte. byte == 35) (take marks text) ≡ pointwise nat_eq (replicate marks 35) (take marks text)
marks_pointwise zero text h = refl
marks_pointwise (suc marks) [] h = absurd (omega arith)
marks_pointwise (suc marks) (byte ∷ text) h =
    let rest = marks_pointwise marks text (omega arith) in
    let here : (byte == 35) ≡ nat_eq 35 byte = grind (arith, nat_tests) in
    ap (λ b. b && list_all (λ byte. byte == 35) (take marks text)) here ∙ ap (λ b. nat_eq 35 byte && b) rest

pub marks_front : (marks : ℕ) (text : List ℕ) → marks ≤ length text → list_all (λ byte. byte == 35) (take marks text) ≡ starts_with nat_eq text (replicate marks 35)
marks_front marks text h = marks_pointwise marks text h ∙ ap (λ n. pointwise nat_eq (replicate marks 35) (take n text)) (sym (length-replicate marks 35))
