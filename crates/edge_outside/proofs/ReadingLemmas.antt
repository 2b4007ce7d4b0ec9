-- What a line reader stands for after each of its steps.
use Rattle.std.proofs.Common.{◌≡◌, ◌≢◌, ◌⊎◌, ⊎_elim, ℕ, ◌+◌, ◌-◌, ◌^◌, ◌<◌, ◌≤◌, Bool, true, false, List, [], ◌∷◌, ◌++◌, length, Option, Some, None, refl, sym, ap, subst, ◌∙◌, arith, append_assoc, append-nil, length-append}
use Rattle.std.proofs.Common.{if◌then◌else◌, option_to_list}
use Rattle.std.proofs.lemmas.List.{nil_from_length}
use Rattle.std.specs.Io.KnownBytes.{Consumes, IsAtEnd}
use Rattle.edge_outside.specs.Lines.{lines_of, NoNewline}
use Rattle.edge_outside.specs.Held.{Held, Cut}
use Rattle.edge_outside.specs.Reading.{line_of, ahead_of, IsPast, Stands, StepOf, Took, IsLooked, weight}
use Rattle.edge_outside.specs.declared.line_reader.LineReader.{LineReader}
use Rattle.edge_outside.specs.declared.line_reader.LineStep.TheVariants as step
use Rattle.edge_outside.proofs.LinesLemmas.{NoNewline-append, NoNewline-nil, NoNewline-one, lines_of-line, lines_of-last}

-- what was read past has no newline
pub NoNewline-past : (long : Bool) (past : List ℕ) → IsPast long past → NoNewline past
NoNewline-past false past is_past = subst NoNewline (sym is_past) NoNewline-nil
NoNewline-past true past is_past = is_past.1

-- a line was cut off the text behind what was read past
answered : (new : LineReader) (left : Option (List ℕ)) (text : List ℕ) (long : Bool) (past line rest : List ℕ) → IsPast long past
    → line_of new ≡ line → length line ≤ 2 ^ 20 → lines_of text ≡ (past ++ line) ∷ lines_of rest → Stands new left rest
    → StepOf (if long then step.Long else step.Line) new left text
answered new left text false past line rest is_past is fits first after =
    let whole : past ++ line ≡ line_of new = ap (λ l. l ++ line) is_past ∙ sym is in (
      subst (λ l. length l ≤ 2 ^ 20) (sym is) fits,
      record { rest = rest; is_first = first ∙ ap (λ l. l ∷ lines_of rest) whole; after = after },
    )
answered new left text true past line rest is_past is fits first after = (
  past ++ line,
  omega (arith, length-append past line, is_past.0),
  record { rest = rest; is_first = first; after = after },
)

-- a reader that reads past nothing stands before what it has ahead and its source's bytes
stands : (new : LineReader) (left : Option (List ℕ)) (source : List ℕ) → new.long ≡ false → left ≡ Some source
    → Stands new left (ahead_of new ++ source)
stands new left source short is_left = record {
  past = [];
  source = source;
  is_past = subst (λ long. IsPast long []) (sym short) refl;
  is_left = is_left;
  is_text = refl;
}

-- the same, where it has nothing ahead
stands-bare : (new : LineReader) (left : Option (List ℕ)) (source : List ℕ) → ahead_of new ≡ [] → new.long ≡ false → left ≡ Some source
    → Stands new left source
stands-bare new left source bare short is_left =
    subst (Stands new left) (ap (λ l. l ++ source) bare) (stands new left source short is_left)

cut-text : (text past begun rest piece line source more now : List ℕ) (aside : List ℕ) → text ≡ past ++ ((begun ++ rest ++ aside) ++ source)
    → rest ≡ piece ++ 10 ∷ more → line ≡ begun ++ piece → now ≡ []
    → text ≡ (past ++ line) ++ 10 ∷ ((now ++ more ++ aside) ++ source)
cut-text text past begun rest piece line source more now aside is is_rest is_line is_now =
    is ∙ rw (is_rest, is_line, is_now) (simp append_assoc)

-- the line ends in what was not looked at
pub stands-cut : (old new : LineReader) (left : Option (List ℕ)) (text : List ℕ) → Cut old.buffer new.buffer → new.aside ≡ old.aside
    → new.long ≡ false → Stands old left text → StepOf (if old.long then step.Long else step.Line) new left text
stands-cut old new left text cut aside short before =
    let past = before.past in
    let line = line_of new in
    let none = NoNewline-append past line (NoNewline-past old.long past before.is_past) cut.no_newline in
    let is_text = cut-text text past old.buffer.begun old.buffer.rest cut.piece line before.source new.buffer.rest new.buffer.begun
    (option_to_list new.aside) (before.is_text ∙ ap (λ l. past ++ ((old.buffer.begun ++ old.buffer.rest ++ option_to_list l) ++ before.source)) (sym aside))
    cut.is_rest cut.is_line cut.is_begun in
    answered new left text old.long past line (ahead_of new ++ before.source) before.is_past refl cut.fits
    (ap lines_of is_text ∙ lines_of-line (past ++ line) (ahead_of new ++ before.source) none) (stands new left before.source short before.is_left)

aside-text : (text past begun rest line source : List ℕ) (byte : ℕ) (aside : Option ℕ) → text ≡ past ++ ((begun ++ rest ++ option_to_list aside) ++ source)
    → aside ≡ Some byte → line ≡ begun ++ rest → text ≡ (past ++ line) ++ byte ∷ source
aside-text text past begun rest line source byte aside is is_aside is_line = is ∙ rw (is_aside, is_line) (simp append_assoc)

-- the line ends at the byte aside
pub stands-aside : (old new : LineReader) (left : Option (List ℕ)) (text : List ℕ) → old.aside ≡ Some 10
    → line_of new ≡ old.buffer.begun ++ old.buffer.rest → NoNewline (line_of new) → length (line_of new) ≤ 2 ^ 20 → ahead_of new ≡ []
    → new.long ≡ false → Stands old left text → StepOf (if old.long then step.Long else step.Line) new left text
stands-aside old new left text aside is_line none fits bare short before =
    let past = before.past in
    let line = line_of new in
    let all = NoNewline-append past line (NoNewline-past old.long past before.is_past) none in
    let is_text = aside-text text past old.buffer.begun old.buffer.rest line before.source 10 old.aside before.is_text aside is_line in
    answered new left text old.long past line before.source before.is_past refl fits
    (ap lines_of is_text ∙ lines_of-line (past ++ line) before.source all) (stands-bare new left before.source bare short before.is_left)

-- the byte aside belongs to a line that is too long
pub stands-past : (old new : LineReader) (left : Option (List ℕ)) (text line : List ℕ) (byte : ℕ) → old.aside ≡ Some byte → byte ≢ 10
    → line ≡ old.buffer.begun ++ old.buffer.rest → NoNewline line → 2 ^ 20 ≤ length line → ahead_of new ≡ []
    → new.long ≡ true → Stands old left text → Stands new left text
stands-past old new left text line byte aside other is_line none full bare long before =
    let past = before.past in
    let all = (past ++ line) ++ byte ∷ [] in
    let size : length all ≡ length past + length line + 1 = length-append (past ++ line) (byte ∷ []) ∙ ap (λ n. n + 1) (length-append past line) in
    let is_past : IsPast true all = (
      omega arith,
      NoNewline-append (past ++ line) _ (NoNewline-append past line (NoNewline-past old.long past before.is_past) none) (NoNewline-one byte other),
    ) in
    let is_text = aside-text text past old.buffer.begun old.buffer.rest line before.source byte old.aside before.is_text aside is_line in
    record {
      past = all;
      source = before.source;
      is_past = subst (λ is. IsPast is all) (sym long) is_past;
      is_left = before.is_left;
      is_text = is_text ∙ sym (append_assoc (past ++ line) (byte ∷ []) before.source) ∙ ap (λ l. all ++ (l ++ before.source)) (sym bare);
    }

-- a list with bytes has some
length-some : (bytes : List ℕ) → bytes ≢ [] → 0 < length bytes
length-some [] some = absurd (some refl)
length-some (byte ∷ bytes) some = omega arith

last-text : (text past begun rest line source : List ℕ) (aside : Option ℕ) → text ≡ past ++ ((begun ++ rest ++ option_to_list aside) ++ source)
    → rest ≡ [] → aside ≡ None → source ≡ [] → line ≡ begun → text ≡ past ++ line
last-text text past begun rest line source aside is is_rest is_aside is_source is_line =
    is ∙ rw (is_rest, is_aside, is_source, is_line) (simp append-nil)

-- the last line
pub stands-last : (old new : LineReader) (left : Option (List ℕ)) (text : List ℕ) → IsAtEnd left → old.buffer.rest ≡ [] → old.aside ≡ None
    → line_of new ≡ old.buffer.begun → NoNewline (line_of new) → length (line_of new) ≤ 2 ^ 20 → ahead_of new ≡ [] → new.long ≡ false
    → (old.buffer.begun ≢ []) ⊎ (old.long ≡ true) → Stands old left text
    → StepOf (if old.long then step.Long else step.Line) new left text
stands-last old new left text end rest aside is_line none fits bare short some before =
    let past = before.past in
    let line = line_of new in
    let nothing : before.source ≡ [] = subst IsAtEnd before.is_left end in
    let all = NoNewline-append past line (NoNewline-past old.long past before.is_past) none in
    let is_text = last-text text past old.buffer.begun old.buffer.rest line before.source old.aside before.is_text rest aside nothing is_line in
    let joined = length-append past line in
    let size : 0 < length (past ++ line) = ⊎_elim
    (λ begun. omega (arith, length-some line (λ e. begun (sym is_line ∙ e))))
    (λ long. let longer : IsPast true past = subst (λ b. IsPast b past) long before.is_past in omega (arith, longer.0)) some in
    answered new left text old.long past line [] before.is_past refl fits
    (ap lines_of is_text ∙ lines_of-last (past ++ line) all size) (stands-bare new left [] bare short (before.is_left ∙ ap Some nothing))

-- bytes were taken
pub stands-took : (old new : LineReader) (left more : Option (List ℕ)) (bytes text : List ℕ) → Took old new bytes → Consumes left more bytes
    → Stands old left text → Stands new more text
stands-took old new left None bytes text took consumed before = absurd (subst (λ known. Consumes known None bytes) before.is_left consumed)
stands-took old new left (Some source) bytes text took consumed before =
    let past = before.past in
    let parts : before.source ≡ bytes ++ source = subst (λ known. Consumes known (Some source) bytes) before.is_left consumed in
    record {
      past = past;
      source = source;
      is_past = subst (λ long. IsPast long past) (sym took.is_long) before.is_past;
      is_left = refl;
      is_text = before.is_text ∙ ap (λ l. past ++ l) (ap (λ l. ahead_of old ++ l) parts ∙ sym (append_assoc (ahead_of old) bytes source)
          ∙ ap (λ l. l ++ source) (sym took.is_ahead));
    }

lighter : (taken more count ahead longer past same : ℕ) → more ≡ taken + count → more ≤ 2 ^ 40 → longer ≡ ahead + count → same ≡ past
    → (2 ^ 40 - more) + longer + same ≤ (2 ^ 40 - taken) + ahead + past
lighter taken more count ahead longer past same is_more limited is_longer is_same = omega arith

-- a reader that takes bytes can't give more lines than before
pub weight-took : (old new : LineReader) (bytes : List ℕ) → Took old new bytes → weight new ≤ weight old
weight-took old new bytes took =
    lighter old.taken new.taken (length bytes) (length (ahead_of old)) (length (ahead_of new)) _ _ took.is_taken new.limited
    (ap length took.is_ahead ∙ length-append (ahead_of old) bytes) (ap (λ b. if b then 1 else 0) took.is_long)

-- nothing is ahead of a buffer that was cut whole
pub bare : (buffer : Held) (aside : Option ℕ) (line : List ℕ) → buffer ≡ record { line = line; begun = []; rest = [] } → aside ≡ None
    → buffer.begun ++ buffer.rest ++ option_to_list aside ≡ []
bare buffer aside line is is_aside =
    ap (λ (h : Held). h.begun ++ h.rest ++ option_to_list aside) is ∙ ap (λ l. option_to_list l) is_aside

-- where nothing more was taken, all that is ahead of a reader that has looked at it is the begun line
pub ahead-in_line : (before now : LineReader) (bytes : List ℕ) → IsLooked before → NoNewline before.buffer.begun → Took before now bytes
    → now.taken ≡ before.taken → NoNewline (ahead_of now)
ahead-in_line before now bytes looked none took same =
    let empty : bytes ≡ [] = nil_from_length bytes (omega (arith, took.is_taken, same)) in
    let begun = before.buffer.begun in
    let bare : ahead_of before ≡ begun =
    ap (λ xs. begun ++ xs ++ option_to_list before.aside) looked.0
    ∙ ap (λ aside. begun ++ [] ++ option_to_list aside) looked.1
    ∙ append-nil (begun ++ []) ∙ append-nil begun in
    let is : ahead_of now ≡ begun = took.is_ahead ∙ ap (λ xs. ahead_of before ++ xs) empty ∙ append-nil (ahead_of before) ∙ bare in
    subst NoNewline (sym is) none
