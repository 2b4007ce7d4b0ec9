-- The lines of a head: more fields than it may have came in as many lines.
use Rattle.std.proofs.Common.{◌≡◌, ℕ, ◌+◌, ◌≤◌, cond, List, [], ◌∷◌, ◌++◌, length, take, drop, sym, ap, ◌∙◌, subst, arith, append_assoc, length-append, take-append-drop}
use Rattle.std.proofs.lemmas.List.{drop-append-le, take-append-le}
use Rattle.std.proofs.lemmas.List.Sums.{sum_by-append}
use Rattle.std.proofs.Math.Seq.{drop-append_seam, take-append_seam}
use Rattle.std.specs.List.{count_by, flat_map}
use Rattle.httparse.specs.Grammar.{LineEnd, crlf, lf, print_end, print_blank, print_version, Field, print_field, print_section, RequestHead}
use Rattle.httparse.specs.Pieces.{Stops, is_newline}
use Rattle.httparse.specs.Spans.{RequestExceeds}
use Rattle.httparse.proofs.GrammarLemmas.{print_request-append}
use Rattle.httparse.proofs.PieceLemmas.{Stops_token, print_field-append}
use Rattle.http_front.specs.Heads.{headers_max, is_line_feed, HoldsLines}

-- how many line feeds bytes hold
abbrev feeds : List ℕ → ℕ
feeds bytes = count_by is_line_feed bytes

feeds-append : (a b : List ℕ) → feeds (a ++ b) ≡ feeds a + feeds b
feeds-append a b = sum_by-append (λ byte. cond (is_line_feed byte) 1 0) a b

behind_feeds : (a b : List ℕ) → feeds b ≤ feeds (a ++ b)
behind_feeds a b = omega (arith, feeds-append a b)

end_feeds : (e : LineEnd) (rest : List ℕ) → feeds (print_end e ++ rest) ≡ 1 + feeds rest
end_feeds crlf rest = feeds-append (13 ∷ 10 ∷ []) rest
end_feeds lf rest = feeds-append (10 ∷ []) rest

field_feeds : (f : Field) (rest : List ℕ) → 1 + feeds rest ≤ feeds (print_field f ++ rest)
field_feeds f rest =
    let ended = print_end f.end ++ rest in
    let same : feeds (print_field f ++ rest) ≡ feeds (f.name ++ 58 ∷ (f.raw ++ ended)) = ap feeds (print_field-append f rest) in
    let named : feeds (58 ∷ (f.raw ++ ended)) ≤ feeds (f.name ++ 58 ∷ (f.raw ++ ended)) = behind_feeds f.name (58 ∷ (f.raw ++ ended)) in
    let parted : feeds (f.raw ++ ended) ≤ feeds (58 ∷ (f.raw ++ ended)) = behind_feeds (58 ∷ []) (f.raw ++ ended) in
    let valued : feeds ended ≤ feeds (f.raw ++ ended) = behind_feeds f.raw ended in
    omega (arith, same, named, parted, valued, end_feeds f.end rest)

fields_feeds : (fields : List Field) (rest : List ℕ) → length fields + feeds rest ≤ feeds (flat_map print_field fields ++ rest)
fields_feeds [] rest = omega arith
fields_feeds (f ∷ fields) rest =
    let same : feeds (flat_map print_field (f ∷ fields) ++ rest) ≡ feeds (print_field f ++ (flat_map print_field fields ++ rest)) =
    ap feeds (append_assoc (print_field f) (flat_map print_field fields) rest) in
    omega (arith, same, field_feeds f (flat_map print_field fields ++ rest), fields_feeds fields rest)

section_feeds : (fields : List Field) (last : LineEnd) → length fields + 1 ≤ feeds (print_section fields last ++ [])
section_feeds fields last =
    let same : feeds (print_section fields last ++ []) ≡ feeds (flat_map print_field fields ++ (print_end last ++ [])) =
    ap feeds (append_assoc (flat_map print_field fields) (print_end last) []) in
    omega (arith, same, fields_feeds fields (print_end last ++ []), end_feeds last [])

-- a head behind the empty lines at its front
abbrev lines_of_head : RequestHead → List ℕ
lines_of_head h =
    h.method ++ 32 ∷ (h.target ++ 32 ∷ (print_version h.minor ++ (print_end h.line_end ++ (print_section h.fields h.last ++ []))))

head_feeds : (h : RequestHead) → length h.fields + 2 ≤ feeds (lines_of_head h)
head_feeds h =
    let section = print_section h.fields h.last ++ [] in
    let ended = print_end h.line_end ++ section in
    let versioned = print_version h.minor ++ ended in
    let aimed = h.target ++ 32 ∷ versioned in
    let first : feeds (32 ∷ aimed) ≤ feeds (h.method ++ 32 ∷ aimed) = behind_feeds h.method (32 ∷ aimed) in
    let second : feeds aimed ≤ feeds (32 ∷ aimed) = behind_feeds (32 ∷ []) aimed in
    let third : feeds (32 ∷ versioned) ≤ feeds aimed = behind_feeds h.target (32 ∷ versioned) in
    let fourth : feeds versioned ≤ feeds (32 ∷ versioned) = behind_feeds (32 ∷ []) versioned in
    let fifth : feeds ended ≤ feeds versioned = behind_feeds (print_version h.minor) ended in
    omega (arith, first, second, third, fourth, fifth, end_feeds h.line_end section, section_feeds h.fields h.last)

stops_front : (front rest : List ℕ) → Stops is_newline (front ++ 10 ∷ []) → Stops is_newline (front ++ rest)
stops_front [] rest stops = absurd (cc)
stops_front (byte ∷ front) rest stops = stops

pub lines_came : (bytes : List ℕ) → RequestExceeds headers_max bytes → HoldsLines (headers_max + 2) bytes
lines_came bytes came =
    let front = came.0 in let rest = came.1 in let h = came.3 in
    let blank = print_blank h.blank in
    let lines = lines_of_head h in
    let n = length blank in
    let whole : front ++ 10 ∷ [] ≡ blank ++ lines = came.4.1 ∙ print_request-append h [] in
    let feed : length h.fields + 2 ≤ feeds lines = head_feeds h in
    let some : 1 ≤ length lines = some_byte lines (omega (arith, feed)) in
    let sizes = ap length whole in
    let within : n ≤ length front =
    omega (arith, sizes, length-append front (10 ∷ []), length-append blank lines, some) in
    let behind : drop n front ++ 10 ∷ [] ≡ lines =
    sym (drop-append-le n front (10 ∷ []) within) ∙ ap (drop n) whole ∙ drop-append_seam blank lines in
    let before : take n front ≡ blank =
    sym (take-append-le n front (10 ∷ []) within) ∙ ap (take n) whole ∙ take-append_seam blank lines in
    let stops : Stops is_newline (drop n front ++ rest) =
    stops_front (drop n front) rest (subst (Stops is_newline) (sym behind) (Stops_token h.method _ came.4.0.method.0 came.4.0.method.1)) in
    let parts : bytes ≡ blank ++ (drop n front ++ rest) =
    came.2 ∙ ap (λ t. t ++ rest) (sym (take-append-drop n front) ∙ ap (λ t. t ++ drop n front) before)
    ∙ append_assoc blank (drop n front) rest in
    let counted : feeds lines ≡ feeds (drop n front) + 1 = sym (ap feeds behind) ∙ feeds-append (drop n front) (10 ∷ []) in
    let over = came.5 in
    (h.blank, drop n front ++ rest, (parts, stops), omega (arith, counted, feed, over, feeds-append (drop n front) rest))
  where
    some_byte : (lines : List ℕ) → 1 ≤ feeds lines → 1 ≤ length lines
    some_byte [] feed = absurd (omega (arith, feed))
    some_byte (byte ∷ lines) feed = omega arith

pub lines_more : (count : ℕ) (front behind : List ℕ) → HoldsLines count front → HoldsLines count (front ++ behind)
lines_more count front behind held =
    let rest = held.1 in
    let parts : front ++ behind ≡ print_blank held.0 ++ (rest ++ behind) =
    ap (λ t. t ++ behind) held.2.0 ∙ append_assoc (print_blank held.0) rest behind in
    let many = held.3 in
    (held.0, rest ++ behind, (parts, stops_more rest behind held.2.1), omega (arith, many, feeds-append rest behind))
  where
    stops_more : (rest behind : List ℕ) → Stops is_newline rest → Stops is_newline (rest ++ behind)
    stops_more [] behind stops = absurd stops
    stops_more (byte ∷ rest) behind stops = stops
