-- What was read of a link, piece by piece, and what it says of all that the link had.
use Rattle.std.proofs.Common.{◌≡◌, Bool, true, false, Result, Ok, Err, ℕ, ◌+◌, ◌<◌, ◌≤◌, ◌⊎◌, List, [], ◌∷◌, ◌++◌, length, take, Option, None, Some, inl, inr, refl, sym, ap, ◌∙◌, subst, arith, append_assoc, append-nil, length-append, length-drop, drop}
use Rattle.std.proofs.lemmas.Bool.{false≢true}
use Rattle.std.proofs.lemmas.List.{take_all, take-append-le, drop-append-le}
use Rattle.std.proofs.Math.Seq.{take-append_seam}
use Rattle.std.proofs.KnownBytes.{Appends-trans, Consumes-trans, Appends-nil, Consumes-nil}
use Rattle.std.specs.Io.KnownBytes.{Consumes, IsAtEnd}
use Rattle.edge_base.specs.declared.message.Request.{Request}
use Rattle.edge_outside.specs.Told.{Gave}
use Rattle.httparse.specs.Grammar.{HasNoRequest, NeverHasRequest}
use Rattle.http_front.specs.declared.causes.HeadFault.TheVariants as fault
use Rattle.http_front.specs.declared.heads.Begun.{Begun}
use Rattle.http_front.specs.Heads.{head_max, front_of, HasTooMany}
use Rattle.http_front.specs.Reading.{Arrival, TookSome}
use Rattle.http_front.specs.Steps.{IsRequestFrom, open_cause, LacksHead, TookPiece, TookOn, IsLast}
use Rattle.http_front.proofs.ReadingLemmas.{never_none, never_bad, many_none, many_crowded, open_none, open_lacks}

-- ---- pieces

abbrev is_okay : {T E : Type 0} → Result T E → Bool
is_okay (Ok value) = true
is_okay (Err cause) = false

-- what holds unless a call failed holds where it was Ok
pub where_ok : (T E P : Type 0) (value : T) (cause : E) → (¬ (◌≡◌ {A = Result T E} (Ok value) (Err cause)) → P) → P
where_ok T E P value cause holds = holds (λ same. false≢true (sym (ap is_okay same)))

pub gave_none : {S : Type 0} (left taken : S → Option (List ℕ)) (source : S) → Gave left taken source source []
gave_none left taken source = (Consumes-nil (left source), Appends-nil (taken source))

pub gave_trans : {S : Type 0} (left taken : S → Option (List ℕ)) (a b c : S) (first second : List ℕ)
    → Gave left taken a b first → Gave left taken b c second → Gave left taken a c (first ++ second)
gave_trans left taken a b c first second p q =
    (Consumes-trans _ _ _ first second p.0 q.0, Appends-trans _ _ _ first second p.1 q.1)

pub gave_more : {S : Type 0} (left taken : S → Option (List ℕ)) (a b c : S) (came more bytes : List ℕ)
    → Gave left taken a b came → TookPiece left taken b c came more bytes → Gave left taken a c more
gave_more left taken a b c came more bytes first took =
    subst (Gave left taken a c) (sym took.0) (gave_trans left taken a b c came bytes first took.1)

pub took_on : {S : Type 0} (left taken : S → Option (List ℕ)) (a b c : S) (before came more bytes : List ℕ)
    → TookOn left taken a b before came → TookPiece left taken b c came more bytes → TookOn left taken a c before more
took_on left taken a b c before came more bytes first second = (
  first.0 ++ bytes,
  (
    second.0 ∙ ap (λ t. t ++ bytes) first.1.0 ∙ append_assoc before first.0 bytes,
    gave_trans left taken a b c first.0 bytes first.1.1 second.1,
  ),
)

pub took_some : {S : Type 0} (left taken : S → Option (List ℕ)) (a b c : S) (came : List ℕ) (n most : ℕ)
    → Gave left taken a b came → TookSome left taken b c n → length came + n ≤ most → TookSome left taken a c most
took_some left taken a b c came n most first second fits =
    let bytes = second.0 in let few = second.2 in
    (came ++ bytes, gave_trans left taken a b c came bytes first second.1, omega (arith, length-append came bytes, few, fits))

-- ---- all that the source had

-- what is left behind the bytes that were read
pub behind : (left rest : Option (List ℕ)) (text bytes : List ℕ) → left ≡ Some text → Consumes left rest bytes
    → (more : List ℕ) × (rest ≡ Some more) × (text ≡ bytes ++ more)
behind left rest text bytes told took = found rest (subst (λ known. Consumes known rest bytes) told took)
  where
    found : (rest : Option (List ℕ)) → Consumes (Some text) rest bytes
        → (more : List ℕ) × (rest ≡ Some more) × (text ≡ bytes ++ more)
    found None took = absurd took
    found (Some more) took = (more, refl, took)

pub lacks_bad : (text came more : List ℕ) → text ≡ came ++ more → length came ≤ head_max → NeverHasRequest came
    → LacksHead text fault.BadHead
lacks_bad text came more same short never = inr (never_none text came more same never, never_bad text came more same short never)

pub lacks_crowded : (text came more : List ℕ) → text ≡ came ++ more → length came ≤ head_max → HasTooMany came
    → LacksHead text fault.TooManyHeaders
lacks_crowded text came more same short many = inr (many_none text came more same many, many_crowded text came more same short many)

front_is : (text came more : List ℕ) → text ≡ came ++ more → length came ≤ head_max
    → (length came ≡ head_max) ⊎ (more ≡ []) → front_of text ≡ came
front_is text came more same short last = elim last [
  | inl full ↦ (λ i. take (sym full i) (same i)) ∙ take-append_seam came more
  | inr none ↦ ap front_of (same ∙ ap (λ t. came ++ t) none ∙ append-nil came) ∙ take_all head_max came short
]

pub lacks_open : (text came more : List ℕ) → text ≡ came ++ more → length came ≤ head_max
    → (length came ≡ head_max) ⊎ (more ≡ []) → HasNoRequest came → LacksHead text (open_cause (length came))
lacks_open text came more same short last none = inr (
  open_none text (subst HasNoRequest (sym (front_is text came more same short last)) none),
  open_lacks text (length came) (omega (arith, ap length same, length-append came more)) (λ below. ended last below),
)
  where
    ended : (length came ≡ head_max) ⊎ (more ≡ []) → length came < head_max → length text ≡ length came
    ended (inl full) below = absurd (omega (arith, full, below))
    ended (inr nothing) below = ap length (same ∙ ap (λ t. came ++ t) nothing ∙ append-nil came)

pub last_of : (size : ℕ) (rest : Option (List ℕ)) (more : List ℕ) → rest ≡ Some more → IsLast size head_max rest
    → (size ≡ head_max) ⊎ (more ≡ [])
last_of size rest more told last = elim last [
  | inl full ↦ inl full
  | inr ended ↦ inr (subst IsAtEnd told ended)
]

-- ---- a request that was read

body_within : (came rest : List ℕ) (start size : ℕ) → start + size ≤ length came
    → take size (drop start came) ≡ take size (drop start (came ++ rest))
body_within came rest start size fits =
    sym (take-append-le size (drop start came) rest (omega (arith, length-drop start came, fits)))
    ∙ ap (take size) (sym (drop-append-le start came rest (omega (arith, fits))))

pub request_read : (arrival : Arrival) (text came rest : List ℕ) (begun : Begun) (request : Request) → text ≡ came ++ rest
    → begun.start + begun.length ≤ length came → IsRequestFrom arrival begun came request
    → IsRequestFrom arrival begun text request
request_read arrival text came rest begun request same fits is = record {
  at = is.at;
  from = is.from;
  ssl = is.ssl;
  method = is.method;
  target = is.target;
  minor = is.minor;
  headers = is.headers;
  body_is = is.body_is ∙ body_within came rest begun.start begun.length fits
      ∙ ap (λ t. take begun.length (drop begun.start t)) (sym same);
}

-- the body of a request stands behind its head, and nothing behind it
pub just_body : (came : List ℕ) (n start size : ℕ) (body : List ℕ) → start ≡ n → length came ≡ start + size
    → body ≡ take size (drop start came) → drop n came ≡ body
just_body came n start size body same full is =
    let short : length (drop start came) ≤ size = omega (arith, length-drop start came, full) in
    ap (λ k. drop k came) (sym same) ∙ sym (take_all size (drop start came) short) ∙ sym is

-- nothing came
pub none_came : (came more bytes : List ℕ) → more ≡ came ++ bytes → more ≡ came → bytes ≡ []
none_came came more [] grown same = refl
none_came came more (byte ∷ bytes) grown same =
    absurd (omega (arith, ap length grown, ap length same, length-append came (byte ∷ bytes)))
