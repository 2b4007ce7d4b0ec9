-- A text's pieces: those at the first place of the separator, and the text where it stands nowhere.
use Rattle.std.proofs.Common.{◌≡◌, ◌≢◌, ℕ, ◌+◌, ◌-◌, ◌<◌, ◌≤◌, Bool, true, false, cond, nat_eq, List, [], ◌∷◌, ◌++◌, length, take, drop, None, Some, refl, sym, ap, ◌∙◌, arith, take-append-drop}
use Rattle.std.specs.List.{onto_first, starts_with}
use Rattle.std.proofs.lemmas.Slice.Eq.{bytes_eq-Decides}
use Rattle.memchr.specs.Find.{FindsNeedle}
use Rattle.text_match.proofs.SplitLemmas.{exact_none, exact_first, take_front, take_rest}
use Rattle.func_lib.specs.Arrays.{pieces_from, pieces_between}

not_true : (b : Bool) → ¬ (b ≡ true) → b ≡ false
not_true true h = absurd (h refl)
not_true false h = refl

-- a text that begins with a separator goes on behind it
front_is : (separator text : List ℕ) → starts_with nat_eq text separator ≡ true → text ≡ separator ++ drop (length separator) text
front_is separator text h =
    let same : separator ≡ take (length separator) text = (bytes_eq-Decides separator (take (length separator) text)).0 h in
    sym (take-append-drop (length separator) text) ∙ ap (λ front. front ++ drop (length separator) text) (sym same)

is_front : (separator after : List ℕ) → starts_with nat_eq (separator ++ after) separator ≡ true
is_front separator after =
    (bytes_eq-Decides separator (take (length separator) (separator ++ after))).1 (sym (take_front separator after (separator ++ after) refl))

at_front : (separator : List ℕ) (byte : ℕ) (text : List ℕ) → starts_with nat_eq (byte ∷ text) separator ≡ true → pieces_from separator 0 (byte ∷ text) ≡ [] ∷ pieces_from separator (length separator - 1) text
at_front separator byte text h =
    ap (λ b. cond b ([] ∷ pieces_from separator (length separator - 1) text) (onto_first byte (pieces_from separator 0 text))) h

not_at_front : (separator : List ℕ) (byte : ℕ) (text : List ℕ) → starts_with nat_eq (byte ∷ text) separator ≡ false → pieces_from separator 0 (byte ∷ text) ≡ onto_first byte (pieces_from separator 0 text)
not_at_front separator byte text h =
    ap (λ b. cond b ([] ∷ pieces_from separator (length separator - 1) text) (onto_first byte (pieces_from separator 0 text))) h

-- the rest of a separator is passed over
passed : (separator rest after : List ℕ) → pieces_from separator (length rest) (rest ++ after) ≡ pieces_from separator 0 after
passed separator [] after = refl
passed separator (byte ∷ rest) after = passed separator rest after

none_from : (separator text : List ℕ) → ((before after : List ℕ) → text ≢ before ++ (separator ++ after)) → pieces_from separator 0 text ≡ text ∷ []
none_from separator [] nowhere = refl
none_from separator (byte ∷ text) nowhere =
    let other = not_true (starts_with nat_eq (byte ∷ text) separator) (λ h. nowhere [] (drop (length separator) (byte ∷ text)) (front_is separator (byte ∷ text) h)) in
    not_at_front separator byte text other
    ∙ ap (onto_first byte) (none_from separator text (λ before after e. nowhere (byte ∷ before) after (ap (λ rest. byte ∷ rest) e)))

first_from : (separator before after : List ℕ) → 0 < length separator → ((others more : List ℕ) → before ++ (separator ++ after) ≡ others ++ (separator ++ more) → length before ≤ length others) → pieces_from separator 0 (before ++ (separator ++ after)) ≡ before ∷ pieces_from separator 0 after
first_from [] before after long first = absurd (omega arith)
first_from (byte ∷ rest) [] after long first =
    at_front (byte ∷ rest) byte (rest ++ after) (is_front (byte ∷ rest) after)
    ∙ ap (λ pieces. [] ∷ pieces) (ap (λ n. pieces_from (byte ∷ rest) n (rest ++ after)) (let e : length (byte ∷ rest) - 1 ≡ length rest = omega arith in e) ∙ passed (byte ∷ rest) rest after)
first_from (s ∷ rest) (byte ∷ before) after long first =
    let text = before ++ ((s ∷ rest) ++ after) in
    let other = not_true (starts_with nat_eq (byte ∷ text) (s ∷ rest)) (λ h.
    let low : length (byte ∷ before) ≤ 0 = first [] (drop (length (s ∷ rest)) (byte ∷ text)) (front_is (s ∷ rest) (byte ∷ text) h) in
    omega arith) in
    let least : (others more : List ℕ) → text ≡ others ++ ((s ∷ rest) ++ more) → length before ≤ length others =
    λ others more e.
    let low : length (byte ∷ before) ≤ length (byte ∷ others) = first (byte ∷ others) more (ap (λ xs. byte ∷ xs) e) in
    omega arith in
    not_at_front (s ∷ rest) byte text other
    ∙ ap (onto_first byte) (first_from (s ∷ rest) before after long least)

whole : (separator text : List ℕ) → 0 < length separator → pieces_between separator text ≡ pieces_from separator 0 text
whole [] text long = absurd (omega arith)
whole (byte ∷ rest) text long = grind arith

-- a separator that stands nowhere leaves one piece
pub pieces_at_none : (separator text : List ℕ) → 0 < length separator → FindsNeedle text separator 0 None → pieces_between separator text ≡ text ∷ []
pieces_at_none separator text long none =
    whole separator text long
    ∙ none_from separator text (λ before after e. exact_none separator text none before after (record { found = separator; is_text = e; is_piece = refl }))

-- the first place of a separator ends the first piece
pub pieces_at_first : (separator text : List ℕ) (at : ℕ) → 0 < length separator → FindsNeedle text separator 0 (Some at) → pieces_between separator text ≡ take at text ∷ pieces_between separator (take (length text - (at + length separator)) (drop (at + length separator) text))
pieces_at_first separator text at long found =
    let cut = exact_first separator text at found in
    let rest = drop (at + length separator) text in
    let is : text ≡ take at text ++ (separator ++ rest) = cut.is_split.is_text ∙ ap (λ piece. take at text ++ (piece ++ rest)) cut.is_split.is_piece in
    let least : (others more : List ℕ) → take at text ++ (separator ++ rest) ≡ others ++ (separator ++ more) → length (take at text) ≤ length others =
    λ others more e. cut.is_first others more (record { found = separator; is_text = is ∙ e; is_piece = refl }) in
    whole separator text long
    ∙ ap (pieces_from separator 0) is
    ∙ first_from separator (take at text) rest long least
    ∙ ap (λ pieces. take at text ∷ pieces) (sym (whole separator rest long) ∙ ap (pieces_between separator) (sym (take_rest (at + length separator) text)))
