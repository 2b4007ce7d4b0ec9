-- The lines of headers grow by one.
use Rattle.std.proofs.Common.{◌≡◌, ℕ, ◌+◌, ◌<◌, List, [], ◌∷◌, ◌++◌, length, take, get_or, sym, ap, ◌∙◌, append_assoc, append-nil}
use Rattle.std.proofs.lemmas.List.{take_more}
use Rattle.edge_base.specs.declared.message.Header.{Header}
use Rattle.http_front.specs.Replies.{header_line, header_lines}

header_lines-push : (headers : List Header) (header : Header) → header_lines (headers ++ header ∷ []) ≡ header_lines headers ++ header_line header
header_lines-push [] header = append-nil (header_line header)
header_lines-push (first ∷ headers) header =
    ap (λ rest. header_line first ++ rest) (header_lines-push headers header)
    ∙ sym (append_assoc (header_line first) (header_lines headers) (header_line header))

-- the lines of one header more, behind what stands in front of them
pub one_line_more : (front : List ℕ) (headers : List Header) (i : ℕ) (d : Header) → i < length headers → (front ++ header_lines (take i headers)) ++ header_line (get_or headers i d) ≡ front ++ header_lines (take (i + 1) headers)
one_line_more front headers i d below =
    append_assoc front (header_lines (take i headers)) (header_line (get_or headers i d))
    ∙ ap (λ rest. front ++ rest) (sym (ap header_lines (take_more headers i d below) ∙ header_lines-push (take i headers) (get_or headers i d)))

-- four texts that were added one after the other
pub added : (text t1 t2 t3 t4 a b c d : List ℕ) → t1 ≡ text ++ a → t2 ≡ t1 ++ b → t3 ≡ t2 ++ c → t4 ≡ t3 ++ d
    → t4 ≡ text ++ (a ++ b ++ c ++ d)
added text t1 t2 t3 t4 a b c d p1 p2 p3 p4 =
    p4 ∙ ap (λ t. t ++ d) (p3 ∙ ap (λ t. t ++ c) (p2 ∙ ap (λ t. t ++ b) p1)) ∙ regroup text a b c d
  where
    regroup : (text a b c d : List ℕ) → (((text ++ a) ++ b) ++ c) ++ d ≡ text ++ (a ++ b ++ c ++ d)
    regroup text a b c d = simp append_assoc
