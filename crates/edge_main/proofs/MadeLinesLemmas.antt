-- The lines of a trace that was made from a seed.
use Rattle.std.proofs.Common.{◌≡◌, ◌≢◌, ℕ, zero, suc, ◌+◌, ◌*◌, ◌<◌, ◌≤◌, ◌^◌, Bool, true, false, cond, nat_eq, List, [], ◌∷◌, ◌++◌, codes, decimal, length, refl, sym, ap, subst, ◌∙◌, arith, append_assoc, append-nil, get_or, inl, inr, take, length-append, ◌-◌}
use Rattle.std.proofs.Math.Seq.{take-append_seam}
use Rattle.std.proofs.lemmas.Bool.{cases_Bool}
use Rattle.std.proofs.lemmas.Fmt.{digits_decimal}
use Rattle.std.proofs.lemmas.Str.Parse.{tells_by_index, numerals_by_value}
use Rattle.std.specs.Int.{IsInRange}
use Rattle.edge_base.specs.Bytes.{newline}
use Rattle.edge_outside.specs.Lines.{lines_of, NoNewline}
use Rattle.edge_outside.proofs.LinesLemmas.{NoNewline-nil, NoNewline-one, NoNewline-append, lines_of-line}
use Rattle.trace_form.specs.Made.{made_line, deployment_line, request_line, block_text, limit_text, moment_after, number_after, drawn, host_of, path_of, pause_of}
use Rattle.edge_main.specs.Making.{made_lines}
use Rattle.edge_main.proofs.MakingLemmas.{line_next, lines_front}

-- ---- texts without a newline

abbrev has_no_newline : List ℕ → Bool
has_no_newline [] = true
has_no_newline (byte ∷ bytes) = cond (nat_eq byte 10) false (has_no_newline bytes)

other_byte : (byte : ℕ) → nat_eq byte 10 ≡ false → byte ≢ 10
other_byte byte other is = let never : true ≡ false = ap (λ (b : ℕ). nat_eq b 10) (sym is) ∙ other in absurd cc

without_newline : (bytes : List ℕ) → has_no_newline bytes ≡ true → NoNewline bytes
without_newline [] is = NoNewline-nil
without_newline (byte ∷ bytes) is = elim (cases_Bool (nat_eq byte 10)) [
  | inl same ↦ let never : false ≡ true = sym (ap (λ (b : Bool). cond b false (has_no_newline bytes)) same) ∙ is in absurd cc
  | inr other ↦
      let rest : has_no_newline bytes ≡ true = sym (ap (λ (b : Bool). cond b false (has_no_newline bytes)) other) ∙ is in
      NoNewline-append (byte ∷ []) bytes (NoNewline-one byte (other_byte byte other)) (without_newline bytes rest)
]

decimal_line : (n : ℕ) → n < 2 ^ 64 → NoNewline (decimal n)
decimal_line n low k within = λ is.
    let digit = digits_decimal (numerals_by_value (λ (ds : List ℕ). (i : ℕ) → i < length ds → IsInRange 48 57 (get_or ds i 0)) tells_by_index) n low k within in
    absurd (omega (arith, digit.0, is))

-- ---- the lines

-- a line that ends with its newline
pub record IsLine (line text : List ℕ) : Type 0 where
  pub is : line ≡ text ++ newline ∷ []
  pub none : NoNewline text

early : (seed requests : ℕ) → moment_after seed requests ≤ 2000 * requests
unfolding moment_after
early seed zero = omega arith
early seed (suc requests) =
    let before = early seed requests in
    let pause : pause_of (drawn (number_after seed (suc requests))) < 2000 = omega arith in
    omega (arith, before, pause)

deployment_text : (text : List ℕ) × IsLine deployment_line text
unfolding deployment_line
deployment_text =
    let text = codes "{\"deploy\":{\"rulesets\":[" ++ block_text ++ codes "," ++ limit_text ++ codes "]}}" in
    (text, record { is = refl; none = without_newline text refl })

request_text : (moment number : ℕ) → moment < 2 ^ 64 → (text : List ℕ) × IsLine (request_line moment number) text
unfolding request_line
request_text moment number low =
    let host : host_of number < 2 ^ 64 = omega arith in
    let path : path_of number < 2 ^ 64 = omega arith in
    let front = codes "{\"at\":" in
    let address = codes ",\"ip\":\"10.0.0." in
    let target = codes "\",\"method\":\"GET\",\"target\":\"/p" in
    let headers = codes "\",\"headers\":[[\"host\",\"a.example\"]]}" in
    let one = NoNewline-append front (decimal moment) (without_newline front refl) (decimal_line moment low) in
    let two = NoNewline-append (front ++ decimal moment) address one (without_newline address refl) in
    let three = NoNewline-append (front ++ decimal moment ++ address) (decimal (host_of number)) two (decimal_line (host_of number) host) in
    let four = NoNewline-append (front ++ decimal moment ++ address ++ decimal (host_of number)) target three (without_newline target refl) in
    let five = NoNewline-append (front ++ decimal moment ++ address ++ decimal (host_of number) ++ target) (decimal (path_of number)) four (decimal_line (path_of number) path) in
    let six = NoNewline-append (front ++ decimal moment ++ address ++ decimal (host_of number) ++ target ++ decimal (path_of number)) headers five (without_newline headers refl) in
    (front ++ decimal moment ++ address ++ decimal (host_of number) ++ target ++ decimal (path_of number) ++ headers, record { is = refl; none = six })

-- each made line ends with its newline, and has no other
pub made_text : (seed index : ℕ) → index ≤ 10000001 → (text : List ℕ) × IsLine (made_line seed index) text
made_text seed zero low = deployment_text
made_text seed (suc requests) low =
    let before = early seed (suc requests) in
    let within : moment_after seed (suc requests) < 2 ^ 64 = omega (arith, before, low) in
    request_text (moment_after seed (suc requests)) (drawn (number_after seed (suc requests))) within

-- ---- the lines of what was made

line_lines : (line text rest : List ℕ) → IsLine line text → lines_of (line ++ rest) ≡ text ∷ lines_of rest
line_lines line text rest l =
    ap (λ (all : List ℕ). lines_of (all ++ rest)) l.is ∙ ap lines_of (append_assoc text (newline ∷ []) rest) ∙ lines_of-line text rest l.none

-- what was made ends with a whole line
made_whole : (seed count : ℕ) (rest : List ℕ) → count ≤ 10000001
    → lines_of (made_lines seed count ++ rest) ≡ lines_of (made_lines seed count) ++ lines_of rest
unfolding made_lines
made_whole seed zero rest low = refl
made_whole seed (suc count) rest low =
    let before = made_lines seed count in
    let line = made_line seed count in
    let few : count ≤ 10000001 = omega (arith, low) in
    let (text, is_line) = made_text seed count few in
    let one : lines_of line ≡ text ∷ [] = ap lines_of (sym (append-nil line)) ∙ line_lines line text [] is_line in
    ap lines_of (append_assoc before line rest) ∙ made_whole seed count (line ++ rest) few
    ∙ ap (λ (lines : List (List ℕ)). lines_of before ++ lines) (line_lines line text rest is_line ∙ ap (λ (lines : List (List ℕ)). lines ++ lines_of rest) (sym one))
    ∙ sym (append_assoc (lines_of before) (lines_of line) (lines_of rest))
    ∙ ap (λ (lines : List (List ℕ)). lines ++ lines_of rest) (sym (made_whole seed count line few))

-- one more line
pub made_next : (seed index : ℕ) (text : List ℕ) → index ≤ 10000001 → IsLine (made_line seed index) text
    → lines_of (made_lines seed (suc index)) ≡ lines_of (made_lines seed index) ++ text ∷ []
made_next seed index text low is_line =
    ap lines_of (sym (line_next seed index)) ∙ made_whole seed index (made_line seed index) low
    ∙ ap (λ (lines : List (List ℕ)). lines_of (made_lines seed index) ++ lines)
    (ap lines_of (sym (append-nil (made_line seed index))) ∙ line_lines (made_line seed index) text [] is_line)

-- a line stands among all
pub made_among : (seed index end : ℕ) (text : List ℕ) → suc index ≤ end → end ≤ 10000001 → IsLine (made_line seed index) text
    → (rest : List (List ℕ)) × (lines_of (made_lines seed end) ≡ lines_of (made_lines seed index) ++ text ∷ rest)
made_among seed index end text within low is_line =
    let (rest, is) = lines_front seed (suc index) end within in
    let few : suc index ≤ 10000001 = omega (arith, within, low) in
    let early : index ≤ 10000001 = omega (arith, within, low) in (
      lines_of rest,
      ap lines_of is ∙ made_whole seed (suc index) rest few ∙ ap (λ (lines : List (List ℕ)). lines ++ lines_of rest) (made_next seed index text early is_line)
          ∙ append_assoc (lines_of (made_lines seed index)) (text ∷ []) (lines_of rest),
    )

-- the line without its newline
pub text_of_line : (line text : List ℕ) → IsLine line text → take (length line - 1) line ≡ text
text_of_line line text l =
    let size : length line ≡ length text + 1 = ap length l.is ∙ length-append text (newline ∷ []) in
    let front : length line - 1 ≡ length text = omega (arith, size) in
    ap (λ (n : ℕ). take n line) front ∙ ap (λ (all : List ℕ). take (length text) all) l.is ∙ take-append_seam text (newline ∷ [])

-- what was taken of a made line is its text
pub taken_text : (seed index : ℕ) (text line given : List ℕ) → IsLine (made_line seed index) text → line ≡ made_line seed index
    → given ≡ take (length line - 1) line → given ≡ text
taken_text seed index text line given is_line is_made is =
    is ∙ ap (λ (all : List ℕ). take (length all - 1) all) is_made ∙ text_of_line (made_line seed index) text is_line

-- the lines so far, and what was taken of the next
pub made_more : (seed index index' : ℕ) (text given : List ℕ) → index ≤ 10000001 → IsLine (made_line seed index) text → given ≡ text
    → index' ≡ suc index → lines_of (made_lines seed index) ++ given ∷ [] ≡ lines_of (made_lines seed index')
made_more seed index index' text given low is_line same next =
    ap (λ (line : List ℕ). lines_of (made_lines seed index) ++ line ∷ []) same ∙ sym (made_next seed index text low is_line)
    ∙ sym (ap (λ (count : ℕ). lines_of (made_lines seed count)) next)
