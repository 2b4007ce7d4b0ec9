-- A head ends with an empty line behind one that isn't.
use Rattle.std.proofs.Common.{◌≡◌, ℕ, ◌+◌, ◌<◌, Bool, true, false, ◌==◌, List, [], ◌∷◌, ◌++◌, length, take, drop, get_or, refl, sym, ap, ◌∙◌, arith, append_assoc}
use Rattle.std.specs.Prelude.{All, IsTrue}
use Rattle.std.proofs.lemmas.Bool.{ne_eqb, false≢true}
use Rattle.std.proofs.lemmas.Bool.Decides.{nat_tests}
use Rattle.std.proofs.lemmas.List.{take_more}
use Rattle.std.proofs.Math.Seq.{drop-append_seam}
use Rattle.std.proofs.lemmas.List.Elements.{All-head, All-tail}
use Rattle.std.specs.List.{flat_map}
use Rattle.httparse.specs.Grammar.{is_token_byte, is_uri_byte, is_value_byte, AllPass, LineEnd, crlf, lf, print_end, print_blank, print_version, Field, print_field, IsField, print_section, RequestHead, ReadsRequest, HasNoRequest}
use Rattle.httparse.specs.Pieces.{is_newline}
use Rattle.httparse.proofs.GrammarLemmas.{print_request-append}
use Rattle.httparse.proofs.PieceLemmas.{token_is_no_newline, print_field-append}
use Rattle.http_front.specs.declared.places.Place.{Place}
use Rattle.http_front.specs.declared.places.Place.TheVariants as place
use Rattle.http_front.specs.Places.{place_after, place_behind, is_ended}

pub behind-append : (before : Place) (a b : List ℕ) → place_behind before (a ++ b) ≡ place_behind (place_behind before a) b
behind-append before [] b = refl
behind-append before (byte ∷ a) b = behind-append (place_after before byte) a b

-- the place behind one byte more
pub one_byte_more : (before : Place) (bytes : List ℕ) (i : ℕ) → i < length bytes
    → place_after (place_behind before (take i bytes)) (get_or bytes i 0) ≡ place_behind before (take (i + 1) bytes)
one_byte_more before bytes i below =
    sym (behind-append before (take i bytes) (get_or bytes i 0 ∷ []))
    ∙ sym (ap (place_behind before) (take_more bytes i 0 below))

ended_stays : (bytes : List ℕ) → place_behind place.Ended bytes ≡ place.Ended
ended_stays [] = refl
ended_stays (byte ∷ bytes) = ended_stays bytes

-- ---- bytes in a line

no_feed : (b : ℕ) → is_newline b ≡ false → (b == 10) ≡ false
no_feed b other = grind (arith, nat_tests)

no_return : (b : ℕ) → is_newline b ≡ false → (b == 13) ≡ false
no_return b other = grind (arith, nat_tests)

token_stays : (b : ℕ) → is_token_byte b ≡ true → (b == 10) ≡ false
token_stays b token = no_feed b (token_is_no_newline b token)

uri_stays : (b : ℕ) → is_uri_byte b ≡ true → (b == 10) ≡ false
uri_stays b uri = grind (arith, nat_tests)

value_stays : (b : ℕ) → is_value_byte b ≡ true → (b == 10) ≡ false
value_stays b value = grind (arith, nat_tests)

line_stays : (test : ℕ → Bool) → ((b : ℕ) → test b ≡ true → (b == 10) ≡ false) → (bytes : List ℕ) → AllPass test bytes
    → place_behind place.Line bytes ≡ place.Line
line_stays test other [] all = refl
line_stays test other (byte ∷ bytes) all =
    rw (other byte (All-head (λ b. IsTrue (test b)) byte bytes all)) (line_stays test other bytes (All-tail (λ b. IsTrue (test b)) byte bytes all))

-- the same with bytes behind it
line_passes : (test : ℕ → Bool) → ((b : ℕ) → test b ≡ true → (b == 10) ≡ false) → (bytes rest : List ℕ) → AllPass test bytes
    → place_behind place.Line (bytes ++ rest) ≡ place_behind place.Line rest
line_passes test other bytes rest all =
    behind-append place.Line bytes rest ∙ ap (λ p. place_behind p rest) (line_stays test other bytes all)

first_start : (b : ℕ) → is_newline b ≡ false → place_after place.Start b ≡ place.Line
first_start b other = rw (no_feed b other, no_return b other) refl

first_front : (b : ℕ) → is_newline b ≡ false → place_after place.Front b ≡ place.Line
first_front b other = rw (no_return b other, no_feed b other) refl

token_begins : (word rest : List ℕ) → 0 < length word → AllPass is_token_byte word
    → place_behind place.Start (word ++ rest) ≡ place_behind place.Line rest
token_begins [] rest some all = absurd (omega arith)
token_begins (byte ∷ word) rest some all =
    let other = token_is_no_newline byte (All-head (λ b. IsTrue (is_token_byte b)) byte word all) in
    ap (λ p. place_behind p (word ++ rest)) (first_start byte other)
    ∙ line_passes is_token_byte token_stays word rest (All-tail (λ b. IsTrue (is_token_byte b)) byte word all)

token_begins_front : (word rest : List ℕ) → 0 < length word → AllPass is_token_byte word
    → place_behind place.Front (word ++ rest) ≡ place_behind place.Line rest
token_begins_front [] rest some all = absurd (omega arith)
token_begins_front (byte ∷ word) rest some all =
    let other = token_is_no_newline byte (All-head (λ b. IsTrue (is_token_byte b)) byte word all) in
    ap (λ p. place_behind p (word ++ rest)) (first_front byte other)
    ∙ line_passes is_token_byte token_stays word rest (All-tail (λ b. IsTrue (is_token_byte b)) byte word all)

-- ---- line ends

front_stays : (ends : List LineEnd) (rest : List ℕ) → place_behind place.Front (print_blank ends ++ rest) ≡ place_behind place.Front rest
front_stays [] rest = refl
front_stays (crlf ∷ ends) rest = front_stays ends rest
front_stays (lf ∷ ends) rest = front_stays ends rest

line_ends : (e : LineEnd) (rest : List ℕ) → place_behind place.Line (print_end e ++ rest) ≡ place_behind place.Start rest
line_ends crlf rest = refl
line_ends lf rest = refl

head_closes : (e : LineEnd) (rest : List ℕ) → place_behind place.Start (print_end e ++ rest) ≡ place.Ended
head_closes crlf rest = ended_stays rest
head_closes lf rest = ended_stays rest

-- ---- lines

field_passes : (f : Field) (rest : List ℕ) → IsField f → place_behind place.Start (print_field f ++ rest) ≡ place_behind place.Start rest
field_passes f rest is =
    ap (place_behind place.Start) (print_field-append f rest)
    ∙ token_begins f.name (58 ∷ (f.raw ++ (print_end f.end ++ rest))) is.name.0 is.name.1
    ∙ line_passes is_value_byte value_stays f.raw (print_end f.end ++ rest) is.raw
    ∙ line_ends f.end rest

fields_pass : (fields : List Field) (rest : List ℕ) → All IsField fields
    → place_behind place.Start (flat_map print_field fields ++ rest) ≡ place_behind place.Start rest
fields_pass [] rest all = refl
fields_pass (f ∷ fields) rest all =
    ap (place_behind place.Start) (append_assoc (print_field f) (flat_map print_field fields) rest)
    ∙ field_passes f (flat_map print_field fields ++ rest) (All-head IsField f fields all)
    ∙ fields_pass fields rest (All-tail IsField f fields all)

version_passes : (minor : ℕ) (rest : List ℕ) → place_behind place.Line (print_version minor ++ rest) ≡ place_behind place.Line rest
version_passes minor rest = rw (ne_eqb (48 + minor) 10 (λ same. absurd (omega (arith, same)))) refl

pub head_ends : (bytes : List ℕ) (h : RequestHead) (rest : List ℕ) → ReadsRequest bytes h rest → place_behind place.Front bytes ≡ place.Ended
head_ends bytes h rest reads =
    let section = print_section h.fields h.last ++ rest in
    let ended = print_end h.line_end ++ section in
    let versioned = print_version h.minor ++ ended in
    let aimed = h.target ++ 32 ∷ versioned in
    ap (place_behind place.Front) (reads.1 ∙ print_request-append h rest)
    ∙ front_stays h.blank (h.method ++ 32 ∷ aimed)
    ∙ token_begins_front h.method (32 ∷ aimed) reads.0.method.0 reads.0.method.1
    ∙ line_passes is_uri_byte uri_stays h.target (32 ∷ versioned) reads.0.target.1
    ∙ version_passes h.minor ended
    ∙ line_ends h.line_end section
    ∙ ap (place_behind place.Start) (append_assoc (flat_map print_field h.fields) (print_end h.last) rest)
    ∙ fields_pass h.fields (print_end h.last ++ rest) reads.0.fields
    ∙ head_closes h.last rest

-- bytes that don't end so hold no head
pub none_yet : (bytes : List ℕ) → is_ended (place_behind place.Front bytes) ≡ false → HasNoRequest bytes
none_yet bytes other = λ head rest reads. false≢true (sym other ∙ ap is_ended (head_ends bytes head rest reads))

pub nothing_yet : (bytes : List ℕ) → bytes ≡ [] → HasNoRequest bytes
nothing_yet bytes none = none_yet bytes (ap (λ t. is_ended (place_behind place.Front t)) none)

-- the place behind what came and the bytes that are new
pub place_on : (before now : Place) (came more bytes new : List ℕ) (n : ℕ) → more ≡ came ++ bytes → n ≡ length came → new ≡ drop n more
    → before ≡ place_behind place.Front came → now ≡ place_behind before new → now ≡ place_behind place.Front more
place_on before now came more bytes new n grown size part first next =
    let fresh : new ≡ bytes = part ∙ (λ j. drop (size j) (grown j)) ∙ drop-append_seam came bytes in
    next ∙ (λ j. place_behind (first j) (fresh j)) ∙ sym (behind-append place.Front came bytes) ∙ ap (place_behind place.Front) (sym grown)
