-- What a head that was found, and what bytes without one, say of all the bytes.
use Rattle.std.proofs.Common.{◌≡◌, ℕ, ◌+◌, ◌-◌, ◌<◌, ◌≤◌, nat_lt, List, [], ◌∷◌, ◌++◌, length, take, drop, map, Result, Ok, Err, inl, inr, refl, sym, ap, ◌∙◌, subst, arith, append_assoc, length-append, length-drop, length-take, ltb-true, ltb-false}
use Rattle.std.proofs.lemmas.Bool.{cases_Bool}
use Rattle.std.proofs.lemmas.List.{length-map}
use Rattle.std.proofs.Math.Seq.{drop-append_seam, take-append-add}
use Rattle.httparse.proofs.GrammarLemmas.{request_unique}
use Rattle.httparse.specs.Grammar.{Field, RequestHead, print_request, ReadsRequest, HasNoRequest, NeverHasRequest}
use Rattle.httparse.specs.Spans.{header_bytes, name_and_value, AreFieldsAt, IsRequestWithin, IsRequestAt}
use Rattle.httparse.specs.declared.spans.HeaderSpan.{HeaderSpan}
use Rattle.httparse.specs.declared.spans.RequestSpans.{RequestSpans}
use Rattle.edge_base.specs.declared.message.Header.{Header}
use Rattle.edge_base.specs.declared.message.Request.{Request}
use Rattle.http_front.specs.declared.causes.HeadFault.{HeadFault}
use Rattle.http_front.specs.declared.causes.HeadFault.TheVariants as fault
use Rattle.http_front.specs.declared.heads.Begun.{Begun}
use Rattle.http_front.specs.Framing.{framing_of}
use Rattle.http_front.specs.Heads.{headers_max, head_max, IsHead, HasNoHead, front_of, HasTooMany}
use Rattle.http_front.specs.Reading.{header_of, headers_of, Arrival, IsRequestWith, AnswersBy, AnswersHead, Lacks, AnswersNone, Answers, AnswersAreExact}
use Rattle.http_front.specs.Steps.{Covers, header_at, Began, Begins, IsRequestFrom, open_cause}
use Rattle.http_front.proofs.LineLemmas.{lines_more}

-- ---- a head that was found

fields_few : (bytes : List ℕ) (places : List HeaderSpan) (count : ℕ) (fields : List Field) → length places ≡ headers_max
    → AreFieldsAt bytes places count fields → length fields ≤ headers_max
fields_few bytes places count fields room are =
    let same = ap length are in
    let left = length-map (take count places) (header_bytes bytes) in
    let right = length-map fields name_and_value in
    let taken = length-take count places in
    omega (arith, same, left, right, taken, room)

pub whole_head : (bytes more front : List ℕ) (places : List HeaderSpan) (head : RequestSpans) (found : RequestHead)
    → length places ≡ headers_max → length front ≤ head_max → bytes ≡ front ++ more
    → IsRequestWithin front places head → IsRequestAt front places head found
    → IsHead bytes found (drop (length (print_request found)) bytes)
whole_head bytes more front places head found room short same within at =
    let rest = drop head.len front ++ more in
    let is : bytes ≡ print_request found ++ rest =
    same ∙ ap (λ t. t ++ more) at.reads.1 ∙ append_assoc (print_request found) (drop head.len front) more in
    let behind : drop (length (print_request found)) bytes ≡ rest =
    ap (drop (length (print_request found))) is ∙ drop-append_seam (print_request found) rest in
    record {
      reads = (at.reads.0, is ∙ ap (λ t. print_request found ++ t) (sym behind));
      few = fields_few front places head.headers found.fields room at.fields;
      short = omega (arith, at.len, within.section.len_fits, short);
    }

map_twice : {A B C : Type 0} (f : B → C) (g : A → B) (xs : List A) → map f (map g xs) ≡ map (λ x. f (g x)) xs
map_twice f g [] = refl
map_twice f g (x ∷ xs) = ap (λ ys. f (g x) ∷ ys) (map_twice f g xs)

abbrev pair_header : List ℕ × List ℕ → Header
pair_header pair = record { name = pair.0; value = pair.1 }

pub headers_found : (bytes : List ℕ) (places : List HeaderSpan) (fields : List Field)
    → map (header_bytes bytes) places ≡ map name_and_value fields → map (header_at bytes) places ≡ map header_of fields
headers_found bytes places fields are =
    sym (map_twice pair_header (header_bytes bytes) places) ∙ ap (map pair_header) are
    ∙ map_twice pair_header name_and_value fields

-- ---- what a head gives

request_same : (arrival : Arrival) (found : RequestHead) (begun : Begun) (bytes : List ℕ) (request : Request) → Began found begun
    → IsRequestFrom arrival begun bytes request
    → IsRequestWith arrival found (take begun.length (drop (length (print_request found)) bytes)) request
request_same arrival found begun bytes request began is = record {
  at = is.at;
  from = is.from;
  ssl = is.ssl;
  method = is.method ∙ began.method;
  target = is.target ∙ began.target;
  minor = is.minor ∙ began.minor;
  headers = is.headers ∙ began.headers;
  body_is = is.body_is ∙ ap (λ n. take begun.length (drop n bytes)) began.start;
}

pub answers_ok : (arrival : Arrival) (bytes : List ℕ) (found : RequestHead) (begun : Begun) (request : Request)
    → IsHead bytes found (drop (length (print_request found)) bytes) → Began found begun
    → begun.start + begun.length ≤ length bytes → IsRequestFrom arrival begun bytes request
    → Answers arrival bytes (Ok request)
answers_ok arrival bytes found begun request head began fits is =
    let rest = drop (length (print_request found)) bytes in
    let start = began.start in
    let enough : begun.length ≤ length rest =
    omega (arith, length-drop (length (print_request found)) bytes, start, fits) in
    let gives : AnswersBy arrival found rest (Ok begun.length) (Ok request) =
    (enough, request_same arrival found begun bytes request began is) in
    inl (found, rest, head, subst (λ framing. AnswersBy arrival found rest framing (Ok request)) (sym began.framing) gives)

pub answers_cut : (arrival : Arrival) (bytes : List ℕ) (found : RequestHead) (begun : Begun)
    → IsHead bytes found (drop (length (print_request found)) bytes) → Began found begun
    → length bytes < begun.start + begun.length → Answers arrival bytes (Err fault.Cut)
answers_cut arrival bytes found begun head began few =
    let rest = drop (length (print_request found)) bytes in
    let start = began.start in
    let less : length rest < begun.length =
    omega (arith, ap length head.reads.1, length-append (print_request found) rest, start, few) in
    let gives : AnswersBy arrival found rest (Ok begun.length) (Err fault.Cut) = (less, refl) in
    inl (found, rest, head, subst (λ framing. AnswersBy arrival found rest framing (Err fault.Cut)) (sym began.framing) gives)

pub answers_cause : (arrival : Arrival) (bytes : List ℕ) (found : RequestHead) (cause : HeadFault)
    → IsHead bytes found (drop (length (print_request found)) bytes) → framing_of (headers_of found) ≡ Err cause
    → Answers arrival bytes (Err cause)
answers_cause arrival bytes found cause head fails =
    let rest = drop (length (print_request found)) bytes in
    inl (found, rest, head, subst (λ framing. AnswersBy arrival found rest framing (Err cause)) (sym fails) refl)

-- ---- bytes without a head

pub never_none : (bytes front more : List ℕ) → bytes ≡ front ++ more → NeverHasRequest front → HasNoHead bytes
never_none bytes front more same never = λ head rest is.
    never more head rest (subst (λ t. ReadsRequest t head rest) same is.reads)

-- the bytes in which a head must end are these and perhaps more
front_grows : (bytes front more : List ℕ) → bytes ≡ front ++ more → length front ≤ head_max
    → front_of bytes ≡ front ++ take (head_max - length front) more
front_grows bytes front more same short =
    let room : head_max ≡ length front + (head_max - length front) = omega (arith, short) in
    ap front_of same ∙ ap (λ n. take n (front ++ more)) room ∙ take-append-add front more (head_max - length front)

pub never_bad : (bytes front more : List ℕ) → bytes ≡ front ++ more → length front ≤ head_max → NeverHasRequest front
    → NeverHasRequest (front_of bytes)
never_bad bytes front more same short never = λ after head rest reads.
    let behind = take (head_max - length front) more in
    never (behind ++ after) head rest (subst (λ t. ReadsRequest t head rest)
    (ap (λ t. t ++ after) (front_grows bytes front more same short) ∙ append_assoc front behind after) reads)

too_many_more : (front behind : List ℕ) → HasTooMany front → HasTooMany (front ++ behind)
too_many_more front behind many = record {
  none = λ after head rest reads. many.none (behind ++ after) head rest
      (subst (λ t. ReadsRequest t head rest) (append_assoc front behind after) reads);
  lines = lines_more (headers_max + 2) front behind many.lines;
}

pub many_crowded : (bytes front more : List ℕ) → bytes ≡ front ++ more → length front ≤ head_max → HasTooMany front
    → HasTooMany (front_of bytes)
many_crowded bytes front more same short many =
    subst HasTooMany (sym (front_grows bytes front more same short)) (too_many_more front _ many)

pub many_none : (bytes front more : List ℕ) → bytes ≡ front ++ more → HasTooMany front → HasNoHead bytes
many_none bytes front more same many = λ head rest is.
    let over = many.none more head rest (subst (λ t. ReadsRequest t head rest) same is.reads) in
    let few = is.few in
    omega (arith, over, few)

pub open_none : (bytes : List ℕ) → HasNoRequest (front_of bytes) → HasNoHead bytes
open_none bytes none = λ head rest is.
    let n = length (print_request head) in
    let room : head_max ≡ n + (head_max - n) = omega (arith, is.short) in
    none head (take (head_max - n) rest) (
      is.reads.0,
      ap front_of is.reads.1 ∙ ap (λ k. take k (print_request head ++ rest)) room
          ∙ take-append-add (print_request head) rest (head_max - n),
    )

pub open_lacks : (text : List ℕ) (n : ℕ) → n ≤ length text → (n < head_max → length text ≡ n) → Lacks text (open_cause n)
open_lacks text n longer ended = elim (cases_Bool (nat_lt n head_max)) [
  | inl less ↦ rw less (let below : n < head_max = ltb-true n head_max less in omega (arith, ended below, below))
  | inr full ↦ rw full (let most : head_max ≤ n = ltb-false n head_max full in omega (arith, most, longer))
]

-- ---- a head gives its answers alone

exact_none : (arrival : Arrival) (bytes : List ℕ) (head : RequestHead) (rest : List ℕ) (result : Result Request HeadFault)
    → IsHead bytes head rest → AnswersNone bytes result → AnswersHead arrival head rest result
exact_none arrival bytes head rest (Ok request) is none = absurd none
exact_none arrival bytes head rest (Err cause) is none = absurd (none.0 head rest is)

pub exact : AnswersAreExact
exact arrival bytes head rest result is answers = elim answers [
  | inl found ↦
      let same = request_unique bytes found.0 head found.1 rest found.2.reads is.reads in
      subst (λ k. AnswersHead arrival k rest result) same.0 (subst (λ r. AnswersHead arrival found.0 r result) same.1 found.3)
  | inr none ↦ exact_none arrival bytes head rest result is none
]

-- ---- what a head that was looked at gives

pub cause_answers : (arrival : Arrival) (bytes more front : List ℕ) (places : List HeaderSpan) (head : RequestSpans) (cause : HeadFault)
    → length places ≡ headers_max → length front ≤ head_max → bytes ≡ front ++ more → Covers front places head
    → ((found : RequestHead) → IsRequestAt front places head found → Begins found (Err cause)) → ¬ (cause ≡ fault.Memory)
    → Answers arrival bytes (Err cause)
cause_answers arrival bytes more front places head cause room short same covers begins other =
    let found = covers.1.0 in
    let is = whole_head bytes more front places head found room short same covers.0 covers.1.1 in
    elim (begins found covers.1.1) [
      | inl memory ↦ absurd (other memory)
      | inr fails ↦ answers_cause arrival bytes found cause is fails
    ]

pub cut_answers : (arrival : Arrival) (bytes more front : List ℕ) (places : List HeaderSpan) (head : RequestSpans) (begun : Begun)
    → length places ≡ headers_max → length front ≤ head_max → bytes ≡ front ++ more → Covers front places head
    → ((found : RequestHead) → IsRequestAt front places head found → Began found begun)
    → length bytes < begun.start + begun.length → Answers arrival bytes (Err fault.Cut)
cut_answers arrival bytes more front places head begun room short same covers began few =
    let found = covers.1.0 in
    let is = whole_head bytes more front places head found room short same covers.0 covers.1.1 in
    answers_cut arrival bytes found begun is (began found covers.1.1) few

pub request_answers : (arrival : Arrival) (bytes more front : List ℕ) (places : List HeaderSpan) (head : RequestSpans) (begun : Begun)
    (request : Request) → length places ≡ headers_max → length front ≤ head_max → bytes ≡ front ++ more
    → Covers front places head → ((found : RequestHead) → IsRequestAt front places head found → Began found begun)
    → begun.start + begun.length ≤ length bytes → IsRequestFrom arrival begun bytes request → Answers arrival bytes (Ok request)
request_answers arrival bytes more front places head begun request room short same covers began fits is =
    let found = covers.1.0 in
    let whole = whole_head bytes more front places head found room short same covers.0 covers.1.1 in
    answers_ok arrival bytes found begun request whole (began found covers.1.1) fits is
