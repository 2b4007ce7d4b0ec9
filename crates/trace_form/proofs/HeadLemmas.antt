-- Of all bytes it can be told whether a request's head stands at their front: piece by piece.
use Rattle.std.proofs.Common.{◌≡◌, ◌≢◌, ℕ, zero, suc, ◌+◌, ◌<◌, ◌≤◌, ◌==◌, ◌⊎◌, Bool, true, false, List, [], ◌∷◌, ◌++◌, length, inl, inr, refl, sym, ap, ◌∙◌, subst, arith, append_assoc, length-append, eqb-true, eq-eqb, lit≤, nat_le, leb-true, le-leb}
use Rattle.std.specs.List.{flat_map}
use Rattle.std.specs.Str.{is_utf8}
use Rattle.std.proofs.lemmas.Bool.{cases_Bool, both_ways}
use Rattle.std.proofs.lemmas.List.Elements.{All-nil, All-cons, All-head, All-tail}
use Rattle.std.proofs.lemmas.Str.{IsUtf8-from_is_utf8, is_utf8-from_IsUtf8}
use Rattle.httparse.specs.Grammar.{is_token_byte, is_uri_byte, is_value_byte, AllPass, LineEnd, crlf, lf, print_end, print_blank, print_version, Field, print_field, IsField, RequestHead, print_request}
use Rattle.httparse.specs.Pieces.{Piece, Begins, Then, Stops, is_newline, Bytes, Newline, Blank, Word, Method, Target, Version, Text, FieldLine, FieldLines, Section, RequestStart}
use Rattle.httparse.proofs.PieceLemmas.{IsDeterministic, print_end_unique, newline_not_stopped, Blank_deterministic, Word_deterministic, space_ends_token, colon_ends_token, Method_deterministic, Target_deterministic, Version_deterministic, Stops_value, print_field-append, FieldLine_parts, Name_deterministic, Section_skip, Section_line, FieldLines_push, RequestStart_deterministic}
use Rattle.httparse.proofs.ReadLemmas.{FieldLine_done}
use Rattle.httparse.proofs.GrammarLemmas.{RequestTree, request_tree, request_head, request_pieces, request_from_pieces, request_unique}
use Rattle.http_front.specs.Heads.{headers_max, head_max, IsHead, HasNoHead}

-- a text begins with the piece, or it does not
abbrev Known : {A : Type 0} → Piece A → List ℕ → Type 0
Known G text = Begins G text ⊎ ¬ (Begins G text)

-- ---- one piece and then another

found-then : {A B : Type 0} (G : Piece A) (H : Piece B) → IsDeterministic G → ((text : List ℕ) → Known G text)
    → ((text : List ℕ) → Known H text) → (text : List ℕ) → Known (Then G H) text
found-then {A} {B} G H det first next text = of_first (first text) where
  of_next : (a : A) (middle : List ℕ) → G a text middle → Known H middle → Known (Then G H) text
  of_next a middle is (inl (b, rest, behind)) = inl ((a, b), rest, (middle, is, behind))
  of_next a middle is (inr none) = inr (λ begins.
      let same = det.unique begins.0.0 a text begins.2.0 middle begins.2.1 is in
      none (begins.0.1, begins.1, subst (λ (m : List ℕ). H begins.0.1 m begins.1) same.1 begins.2.2))

  of_first : Known G text → Known (Then G H) text
  of_first (inl (a, middle, is)) = of_next a middle is (next middle)
  of_first (inr none) = inr (λ begins. none (begins.0.0, begins.2.0, begins.2.1))

-- ---- given bytes

nil-front : (b : ℕ) (behind : List ℕ) → ◌≡◌ {A = List ℕ} [] (b ∷ behind) → ⊥
nil-front b behind e = cc

same-first : (a b : ℕ) (front behind : List ℕ) → a ∷ front ≡ b ∷ behind → a ≡ b
same-first a b front behind e = cc

same-behind : (a b : ℕ) (front behind : List ℕ) → a ∷ front ≡ b ∷ behind → front ≡ behind
same-behind a b front behind e = cc

found-bytes : (bytes text : List ℕ) → Known (Bytes bytes) text
found-bytes [] text = inl (tt, text, refl)
found-bytes (b ∷ bytes) [] = inr (λ begins. nil-front b (bytes ++ begins.1) begins.2)
found-bytes (b ∷ bytes) (x ∷ text) = of_test (cases_Bool (x == b)) (found-bytes bytes text) where
  of_test : ((x == b) ≡ true) ⊎ ((x == b) ≡ false) → Known (Bytes bytes) text → Known (Bytes (b ∷ bytes)) (x ∷ text)
  of_test (inl same) (inl (u, rest, is)) = inl (tt, rest, ap (λ (v : ℕ). v ∷ text) (eqb-true x b same) ∙ ap (λ (t : List ℕ). b ∷ t) is)
  of_test (inl same) (inr none) = inr (λ begins. none (tt, begins.1, same-behind x b text (bytes ++ begins.1) begins.2))
  of_test (inr other) behind =
      inr (λ begins. both_ways (x == b) other (eq-eqb x b (same-first x b text (bytes ++ begins.1) begins.2)))

-- ---- line ends

neither : (text : List ℕ) → ¬ (Begins (Bytes (print_end crlf)) text) → ¬ (Begins (Bytes (print_end lf)) text) → (end : LineEnd) (rest : List ℕ)
    → Newline end text rest → ⊥
neither text no_crlf no_lf crlf rest is = no_crlf (tt, rest, is)
neither text no_crlf no_lf lf rest is = no_lf (tt, rest, is)

found-newline : (text : List ℕ) → Known Newline text
found-newline text = of_both (found-bytes (print_end crlf) text) (found-bytes (print_end lf) text) where
  of_both : Known (Bytes (print_end crlf)) text → Known (Bytes (print_end lf)) text → Known Newline text
  of_both (inl (u, rest, is)) other = inl (crlf, rest, is)
  of_both (inr no_crlf) (inl (u, rest, is)) = inl (lf, rest, is)
  of_both (inr no_crlf) (inr no_lf) = inr (λ begins. neither text no_crlf no_lf begins.0 begins.1 begins.2)

-- ---- bytes of a class, and the byte that stops them

abbrev Passes : (ℕ → Bool) → ℕ → Type 0
Passes test v = test v ≡ true

abbrev Row : (ℕ → Bool) → ℕ → Piece (List ℕ)
Row test stop word text rest = AllPass test word × (text ≡ word ++ stop ∷ rest)

module _ (test : ℕ → Bool) (stop : ℕ) (fails : test stop ≡ false) where
  nil-row : (word rest : List ℕ) → ◌≡◌ {A = List ℕ} [] (word ++ stop ∷ rest) → ⊥
  nil-row [] rest e = nil-front stop rest e
  nil-row (x ∷ word) rest e = nil-front x (word ++ stop ∷ rest) e

  on-none : (b : ℕ) (text : List ℕ) → test b ≡ true → ¬ (Begins (Row test stop) text) → (word rest : List ℕ) → Row test stop word (b ∷ text) rest → ⊥
  on-none b text passes none [] rest is =
      both_ways (test stop) fails (subst (Passes test) (same-first b stop text rest is.1) passes)
  on-none b text passes none (x ∷ word) rest is =
      none (word, rest, (All-tail (Passes test) x word is.0, same-behind b x text (word ++ stop ∷ rest) is.1))

  ends-none : (b : ℕ) (text : List ℕ) → test b ≡ false → (b == stop) ≡ false → (word rest : List ℕ) → Row test stop word (b ∷ text) rest → ⊥
  ends-none b text ends other [] rest is = both_ways (b == stop) other (eq-eqb b stop (same-first b stop text rest is.1))
  ends-none b text ends other (x ∷ word) rest is =
      both_ways (test b) ends (subst (Passes test) (sym (same-first b x text (word ++ stop ∷ rest) is.1)) (All-head (Passes test) x word is.0))

  found-row : (text : List ℕ) → Known (Row test stop) text
  found-row [] = inr (λ begins. nil-row begins.0 begins.1 begins.2.1)
  found-row (b ∷ text) = of_test (cases_Bool (test b)) (cases_Bool (b == stop)) (found-row text) where
    of_test : (test b ≡ true) ⊎ (test b ≡ false) → ((b == stop) ≡ true) ⊎ ((b == stop) ≡ false) → Known (Row test stop) text
        → Known (Row test stop) (b ∷ text)
    of_test (inl passes) at (inl (word, rest, is)) =
        inl (b ∷ word, rest, (All-cons (Passes test) b word passes is.0, ap (λ (t : List ℕ). b ∷ t) is.1))
    of_test (inl passes) at (inr none) = inr (λ begins. on-none b text passes none begins.0 begins.1 begins.2)
    of_test (inr ends) (inl same) behind = inl ([], text, (All-nil (Passes test), ap (λ (v : ℕ). v ∷ text) (eqb-true b stop same)))
    of_test (inr ends) (inr other) behind = inr (λ begins. ends-none b text ends other begins.0 begins.1 begins.2)

  empty-none : (text rest : List ℕ) → text ≡ stop ∷ rest → (word behind : List ℕ) → Word test stop word text behind → ⊥
  empty-none text rest is [] behind begins = absurd (omega (arith, begins.0))
  empty-none text rest is (x ∷ word) behind begins =
      let same = same-first stop x rest (word ++ stop ∷ behind) (sym is ∙ begins.2) in
      both_ways (test stop) fails (subst (Passes test) (sym same) (All-head (Passes test) x word begins.1))

  found-word : (text : List ℕ) → Known (Word test stop) text
  found-word text = of_row (found-row text) where
    of_row : Known (Row test stop) text → Known (Word test stop) text
    of_row (inl ([], rest, is)) = inr (λ begins. empty-none text rest is.1 begins.0 begins.1 begins.2)
    of_row (inl (b ∷ word, rest, is)) = inl (b ∷ word, rest, (omega arith, is.0, is.1))
    of_row (inr none) = inr (λ begins. none (begins.0, begins.1, (begins.2.1, begins.2.2)))

-- ---- the request line

found-target : (text : List ℕ) → Known Target text
found-target text = of_word (found-word is_uri_byte 32 refl text) where
  of_test : (target rest : List ℕ) → Word is_uri_byte 32 target text rest → (is_utf8 target ≡ true) ⊎ (is_utf8 target ≡ false) → Known Target text
  of_test target rest is (inl valid) = inl (target, rest, (is, IsUtf8-from_is_utf8 target valid))
  of_test target rest is (inr other) = inr (λ begins.
      let same = (Word_deterministic is_uri_byte 32 refl).unique begins.0 target text begins.1 rest begins.2.0 is in
      both_ways (is_utf8 target) other (subst (λ (t : List ℕ). is_utf8 t ≡ true) same.0 (is_utf8-from_IsUtf8 begins.0 begins.2.1)))

  of_word : Known (Word is_uri_byte 32) text → Known Target text
  of_word (inl (target, rest, is)) = of_test target rest is (cases_Bool (is_utf8 target))
  of_word (inr none) = inr (λ begins. none (begins.0, begins.1, begins.2.0))

no-version : (text : List ℕ) → ¬ (Begins (Bytes (print_version 0)) text) → ¬ (Begins (Bytes (print_version 1)) text) → (minor : ℕ) (rest : List ℕ)
    → Version minor text rest → ⊥
no-version text not_0 not_1 zero rest is = not_0 (tt, rest, is.1)
no-version text not_0 not_1 (suc zero) rest is = not_1 (tt, rest, is.1)
no-version text not_0 not_1 (suc (suc more)) rest is = absurd (omega (arith, is.0))

found-version : (text : List ℕ) → Known Version text
found-version text = of_both (found-bytes (print_version 0) text) (found-bytes (print_version 1) text) where
  of_both : Known (Bytes (print_version 0)) text → Known (Bytes (print_version 1)) text → Known Version text
  of_both (inl (u, rest, is)) other = inl (0, rest, (lit≤ tt, is))
  of_both (inr not_0) (inl (u, rest, is)) = inl (1, rest, (lit≤ tt, is))
  of_both (inr not_0) (inr not_1) = inr (λ begins. no-version text not_0 not_1 begins.0 begins.1 begins.2)

-- the empty lines, of a text of at most so many bytes
stopped-none : (text rest : List ℕ) (end : LineEnd) → Newline end text rest → ¬ (Begins Blank rest) → (ends : List LineEnd) (behind : List ℕ) → Blank ends text behind → ⊥
stopped-none text rest end is none [] behind begins = newline_not_stopped end rest text (sym is) (subst (Stops is_newline) (sym begins.0) begins.1)
stopped-none text rest end is none (e ∷ ends) behind begins =
    let same = print_end_unique end e rest (print_blank ends ++ behind) (sym is ∙ begins.0 ∙ append_assoc (print_end e) (print_blank ends) behind) in
    none (ends, behind, (same.1, begins.1))

no-line : (text : List ℕ) → ¬ (Begins Newline text) → ¬ (Stops is_newline text) → (ends : List LineEnd) (behind : List ℕ) → Blank ends text behind → ⊥
no-line text none unstopped [] behind begins = unstopped (subst (Stops is_newline) (sym begins.0) begins.1)
no-line text none unstopped (e ∷ ends) behind begins =
    none (e, print_blank ends ++ behind, begins.0 ∙ append_assoc (print_end e) (print_blank ends) behind)

ends-here : (text : List ℕ) → ¬ (Begins Newline text) → Known Blank text
ends-here [] none = inr (λ begins. no-line [] none (λ stops. stops) begins.0 begins.1 begins.2)
ends-here (b ∷ text) none = of_test (cases_Bool (is_newline b)) where
  of_test : (is_newline b ≡ true) ⊎ (is_newline b ≡ false) → Known Blank (b ∷ text)
  of_test (inl breaks) = inr (λ begins. no-line (b ∷ text) none (λ stops. both_ways (is_newline b) stops breaks) begins.0 begins.1 begins.2)
  of_test (inr stays) = inl ([], b ∷ text, (refl, stays))

newline-length : (end : LineEnd) (text rest : List ℕ) → Newline end text rest → length rest < length text
newline-length crlf text rest is = let l : length text ≡ suc (suc (length rest)) = ap length is in omega (arith, l)
newline-length lf text rest is = let l : length text ≡ suc (length rest) = ap length is in omega (arith, l)

rest-blank : (text : List ℕ) (end : LineEnd) (rest : List ℕ) → Newline end text rest → Known Blank rest → Known Blank text
rest-blank text end rest is (inl (ends, behind, blank)) =
    inl (end ∷ ends, behind, (is ∙ ap (λ (t : List ℕ). print_end end ++ t) blank.0 ∙ sym (append_assoc (print_end end) (print_blank ends) behind), blank.1))
rest-blank text end rest is (inr none) = inr (λ begins. stopped-none text rest end is none begins.0 begins.1 begins.2)

-- by what is found behind a line end
line-blank : (text : List ℕ) → ((end : LineEnd) (rest : List ℕ) → Newline end text rest → Known Blank rest) → Known Newline text → Known Blank text
line-blank text later (inr none) = ends-here text none
line-blank text later (inl (end, rest, is)) = rest-blank text end rest is (later end rest is)

found-blank : (n : ℕ) (text : List ℕ) → length text ≤ n → Known Blank text
found-blank zero text within = line-blank text (λ end rest is. absurd (omega (arith, within, newline-length end text rest is))) (found-newline text)
found-blank (suc n) text within =
    line-blank text (λ end rest is. found-blank n rest (omega (arith, within, newline-length end text rest is))) (found-newline text)

-- ---- the field lines

nil-text : (raw rest : List ℕ) (end : LineEnd) → ◌≡◌ {A = List ℕ} [] (raw ++ (print_end end ++ rest)) → ⊥
nil-text [] rest crlf e = cc
nil-text [] rest lf e = cc
nil-text (x ∷ raw) rest end e = cc

text-on : (b : ℕ) (text : List ℕ) → is_value_byte b ≡ true → ¬ (Begins Text text) → (raw : List ℕ) (end : LineEnd) (rest : List ℕ)
    → Text (raw, end) (b ∷ text) rest → ⊥
text-on b text passes none [] end rest is =
    both_ways (is_value_byte b) (subst (Stops is_value_byte) (sym is.1) (Stops_value end rest)) passes
text-on b text passes none (x ∷ raw) end rest is =
    none ((raw, end), rest, (All-tail (Passes is_value_byte) x raw is.0, same-behind b x text (raw ++ (print_end end ++ rest)) is.1))

text-ends : (b : ℕ) (text : List ℕ) → is_value_byte b ≡ false → ¬ (Begins Newline (b ∷ text)) → (raw : List ℕ) (end : LineEnd) (rest : List ℕ)
    → Text (raw, end) (b ∷ text) rest → ⊥
text-ends b text ends none [] end rest is = none (end, rest, is.1)
text-ends b text ends none (x ∷ raw) end rest is =
    both_ways (is_value_byte b) ends
    (subst (Passes is_value_byte) (sym (same-first b x text (raw ++ (print_end end ++ rest)) is.1)) (All-head (Passes is_value_byte) x raw is.0))

found-text : (text : List ℕ) → Known Text text
found-text [] = inr (λ begins. nil-text begins.0.0 begins.1 begins.0.1 begins.2.1)
found-text (b ∷ text) = of_test (cases_Bool (is_value_byte b)) (found-newline (b ∷ text)) (found-text text) where
  of_test : (is_value_byte b ≡ true) ⊎ (is_value_byte b ≡ false) → Known Newline (b ∷ text) → Known Text text → Known Text (b ∷ text)
  of_test (inl passes) line (inl (t, rest, is)) =
      inl ((b ∷ t.0, t.1), rest, (All-cons (Passes is_value_byte) b t.0 passes is.0, ap (λ (v : List ℕ). b ∷ v) is.1))
  of_test (inl passes) line (inr none) = inr (λ begins. text-on b text passes none begins.0.0 begins.0.1 begins.1 begins.2)
  of_test (inr ends) (inl (end, rest, is)) behind = inl (([], end), rest, (All-nil (Passes is_value_byte), is))
  of_test (inr ends) (inr none) behind = inr (λ begins. text-ends b text ends none begins.0.0 begins.0.1 begins.1 begins.2)

found-field : (text : List ℕ) → Known FieldLine text
found-field text = of_parts (found-then (Word is_token_byte 58) Text Name_deterministic (found-word is_token_byte 58 colon_ends_token) found-text text) where
  of_parts : Known (Then (Word is_token_byte 58) Text) text → Known FieldLine text
  of_parts (inl (t, rest, is)) =
      inl (record { name = t.0; raw = t.1.0; end = t.1.1 }, rest, FieldLine_done t.0 t.1.0 t.1.1 text is.0 rest is.1 is.2)
  of_parts (inr none) = inr (λ begins.
      none ((begins.0.name, (begins.0.raw, begins.0.end)), begins.1, FieldLine_parts begins.0 text begins.1 begins.2))

field-length : (f : Field) (text rest : List ℕ) → FieldLine f text rest → length rest < length text
field-length f text rest is =
    let whole = ap length (is.1 ∙ print_field-append f rest) in
    let name = length-append f.name (58 ∷ (f.raw ++ (print_end f.end ++ rest))) in
    let raw = length-append f.raw (print_end f.end ++ rest) in
    let end = length-append (print_end f.end) rest in
    omega (arith, whole, name, raw, end)

regroup : (a b c r : List ℕ) → a ++ ((b ++ c) ++ r) ≡ ((a ++ b) ++ c) ++ r
regroup a b c r = simp append_assoc

lines-none : (text middle : List ℕ) (f : Field) → FieldLine f text middle → ¬ (Begins Section middle) → (s : List Field × LineEnd) (rest : List ℕ)
    → Section s text rest → ⊥
lines-none text middle f line none s rest is =
    let one = FieldLines_push [] f text text middle (All-nil IsField, refl) line in
    let skipped = Section_skip (f ∷ []) s.0 s.1 text middle rest one is in
    none ((skipped.0, s.1), rest, skipped.2)

rest-section : (text : List ℕ) (f : Field) (middle : List ℕ) → FieldLine f text middle → Known Section middle → Known Section text
rest-section text f middle line (inl (s, rest, is)) = inl (
  (f ∷ s.0, s.1),
  rest,
  (
    All-cons IsField f s.0 line.0 is.0,
    line.1 ∙ ap (λ (t : List ℕ). print_field f ++ t) is.1 ∙ regroup (print_field f) (flat_map print_field s.0) (print_end s.1) rest,
  ),
)
rest-section text f middle line (inr none) = inr (λ begins. lines-none text middle f line none begins.0 begins.1 begins.2)

no-begin : (text : List ℕ) → ¬ (Begins Newline text) → ¬ (Begins FieldLine text) → Begins Newline text ⊎ Begins FieldLine text → ⊥
no-begin text no_newline no_field (inl newline) = no_newline newline
no-begin text no_newline no_field (inr field) = no_field field

line-section : (text : List ℕ) → ((f : Field) (middle : List ℕ) → FieldLine f text middle → Known Section middle) → Known Newline text → Known FieldLine text
    → Known Section text
line-section text later (inl (end, rest, is)) field = inl (([], end), rest, (All-nil IsField, is))
line-section text later (inr no_newline) (inr no_field) =
    inr (λ begins. no-begin text no_newline no_field (Section_line begins.0 text begins.1 begins.2))
line-section text later (inr no_newline) (inl (f, middle, line)) = rest-section text f middle line (later f middle line)

found-section : (n : ℕ) (text : List ℕ) → length text ≤ n → Known Section text
found-section zero text within =
    line-section text (λ f middle line. absurd (omega (arith, within, field-length f text middle line))) (found-newline text) (found-field text)
found-section (suc n) text within =
    line-section text (λ f middle line. found-section n middle (omega (arith, within, field-length f text middle line))) (found-newline text)
    (found-field text)

-- ---- heads

found-start : (text : List ℕ) → Known RequestStart text
found-start = found-then Blank (Then Method (Then Target (Then Version Newline))) Blank_deterministic (λ text. found-blank (length text) text (omega arith))
    (found-then Method (Then Target (Then Version Newline)) Method_deterministic (found-word is_token_byte 32 space_ends_token)
    (found-then Target (Then Version Newline) Target_deterministic found-target
    (found-then Version Newline Version_deterministic found-version found-newline)))

found-request : (text : List ℕ) → Known (Then RequestStart Section) text
found-request = found-then RequestStart Section RequestStart_deterministic found-start (λ text. found-section (length text) text (omega arith))

-- a head stands at the front of the bytes, or none does
pub found-head : (bytes : List ℕ) → ((head : RequestHead) × (rest : List ℕ) × IsHead bytes head rest) ⊎ HasNoHead bytes
found-head bytes = of_request (found-request bytes) where
  of_tests : (head : RequestHead) (rest : List ℕ) → IsHead bytes head rest ⊎ ¬ (IsHead bytes head rest)
      → ((h : RequestHead) (r : List ℕ) → IsHead bytes h r → (h ≡ head) × (r ≡ rest))
      → ((h : RequestHead) × (r : List ℕ) × IsHead bytes h r) ⊎ HasNoHead bytes
  of_tests head rest (inl is) one = inl (head, rest, is)
  of_tests head rest (inr never) one = inr (λ h r is. never (subst (λ k. IsHead bytes k rest) (one h r is).0 (subst (λ q. IsHead bytes h q) (one h r is).1 is)))

  of_limits : (t : RequestTree) (rest : List ℕ) → (reads : Then RequestStart Section t bytes rest)
      → (nat_le (length (request_head t).fields) headers_max ≡ true) ⊎ (nat_le (length (request_head t).fields) headers_max ≡ false)
      → (nat_le (length (print_request (request_head t))) head_max ≡ true) ⊎ (nat_le (length (print_request (request_head t))) head_max ≡ false)
      → IsHead bytes (request_head t) rest ⊎ ¬ (IsHead bytes (request_head t) rest)
  of_limits t rest reads (inl few) (inl short) =
      inl (record { reads = request_from_pieces bytes t rest reads; few = leb-true _ headers_max few; short = leb-true _ head_max short })
  of_limits t rest reads (inr many) short = inr (λ is. both_ways _ many (le-leb _ headers_max is.few))
  of_limits t rest reads (inl few) (inr long) = inr (λ is. both_ways _ long (le-leb _ head_max is.short))

  of_request : Known (Then RequestStart Section) bytes → ((h : RequestHead) × (r : List ℕ) × IsHead bytes h r) ⊎ HasNoHead bytes
  of_request (inl (t, rest, reads)) =
      of_tests (request_head t) rest
      (of_limits t rest reads (cases_Bool (nat_le (length (request_head t).fields) headers_max)) (cases_Bool (nat_le (length (print_request (request_head t))) head_max)))
      (λ h r is. request_unique bytes h (request_head t) r rest is.reads (request_from_pieces bytes t rest reads))
  of_request (inr none) = inr (λ h r is. none (request_tree h, r, request_pieces bytes h r is.reads))
