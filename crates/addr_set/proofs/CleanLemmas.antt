-- Bytes of an address text: none is `/`, and after each `.` comes a digit.
use Rattle.std.proofs.Common.{◌≡◌, ◌≢◌, ℕ, zero, suc, ◌+◌, ◌<◌, ◌≤◌, Bool, true, false, List, [], ◌∷◌, ◌++◌, get_or, decimal, inl, inr, arith, append_assoc, append-nil}
use Rattle.std.proofs.lemmas.Fmt.{decimal_is_IsNumeral}
use Rattle.std.specs.Char.{digit_value}
use Rattle.std.specs.Str.Parse.{AllDigits, IsNumeral}
use Rattle.std.specs.Net.Text.{dotted_text}
use Rattle.std.specs.Net.Grammar.{IsDotted, IsGroupsAfter, IsColonHex}
use Rattle.edge_base.specs.declared.address.Addr.{Addr}
use Rattle.edge_base.specs.declared.address.Addr.TheVariants as addr
use Rattle.edge_base.specs.Address.{IsAddrText}
use Rattle.addr_set.proofs.PrefixLemmas.{digit_value-other}

-- none is `/`
abbrev pub HasNoSlash : List ℕ → Type 0
HasNoSlash [] = Unit {0}
HasNoSlash (b ∷ bs) = (b ≢ 47) × HasNoSlash bs

-- after each `.` comes a digit
abbrev pub HasDotsApart : List ℕ → Type 0
HasDotsApart [] = Unit {0}
HasDotsApart (b ∷ bs) = (b ≡ 46 → 48 ≤ get_or bs 0 0) × HasDotsApart bs

abbrev pub IsClean : List ℕ → Type 0
IsClean bs = HasNoSlash bs × HasDotsApart bs

pub HasNoSlash-append : (xs ys : List ℕ) → HasNoSlash xs → HasNoSlash ys → HasNoSlash (xs ++ ys)
HasNoSlash-append [] ys h k = k
HasNoSlash-append (x ∷ xs) ys h k = (h.0, HasNoSlash-append xs ys h.1 k)

pub HasDotsApart-append : (xs ys : List ℕ) → HasDotsApart xs → HasDotsApart ys → HasDotsApart (xs ++ ys)
HasDotsApart-append [] ys h k = k
HasDotsApart-append (x ∷ []) ys h k = (λ dot. absurd (let none : 48 ≤ 0 = h.0 dot in omega arith), k)
HasDotsApart-append (x ∷ y ∷ xs) ys h k = (h.0, HasDotsApart-append (y ∷ xs) ys h.1 k)

IsClean-append : (xs ys : List ℕ) → IsClean xs → IsClean ys → IsClean (xs ++ ys)
IsClean-append xs ys h k = (HasNoSlash-append xs ys h.0 k.0, HasDotsApart-append xs ys h.1 k.1)

HasNoSlash-digits : (ds : List ℕ) → AllDigits 16 ds → HasNoSlash ds
HasNoSlash-digits [] h = tt
HasNoSlash-digits (d ∷ ds) h =
    (λ slash. let small : digit_value 47 < 16 = rw slash at h.0 in omega arith, HasNoSlash-digits ds h.1)

pub HasDotsApart-digits : (ds : List ℕ) → AllDigits 16 ds → HasDotsApart ds
HasDotsApart-digits [] h = tt
HasDotsApart-digits (d ∷ ds) h =
    (λ dot. absurd (let small : digit_value 46 < 16 = rw dot at h.0 in omega arith), HasDotsApart-digits ds h.1)

IsClean-digits : (ds : List ℕ) → AllDigits 16 ds → IsClean ds
IsClean-digits ds h = (HasNoSlash-digits ds h, HasDotsApart-digits ds h)

pub AllDigits-weaker : (ds : List ℕ) → AllDigits 10 ds → AllDigits 16 ds
AllDigits-weaker [] h = tt
AllDigits-weaker (d ∷ ds) h =
    let small = h.0 in
    (omega arith, AllDigits-weaker ds h.1)

first_digit : (ds rest : List ℕ) → IsNumeral 10 ds → 48 ≤ get_or (ds ++ rest) 0 0
first_digit [] rest h = absurd (omega (arith, h.0))
first_digit (d ∷ ds) rest h = (digit_value-other d h.1.0).0

IsClean-dot : (rest : List ℕ) → 48 ≤ get_or rest 0 0 → IsClean rest → IsClean (46 ∷ rest)
IsClean-dot rest digit h = ((λ slash. omega arith, h.0), (λ dot. digit, h.1))

IsClean-decimal : (n : ℕ) → n < 256 → IsClean (decimal n)
IsClean-decimal n small = IsClean-digits (decimal n) (AllDigits-weaker (decimal n) (decimal_is_IsNumeral n (omega arith)).0.1)

dotted : (a b c d : ℕ) → dotted_text a b c d ≡ decimal a ++ 46 ∷ (decimal b ++ 46 ∷ (decimal c ++ 46 ∷ (decimal d ++ [])))
dotted a b c d = simp (append_assoc, append-nil)

-- a number, and the rest of the address
IsClean-number : (n : ℕ) (rest : List ℕ) → n < 256 → IsClean rest → IsClean (decimal n ++ rest)
IsClean-number n rest small h = IsClean-append (decimal n) rest (IsClean-decimal n small) h

IsClean-dot_number : (n : ℕ) (rest : List ℕ) → n < 256 → IsClean rest → IsClean (46 ∷ (decimal n ++ rest))
IsClean-dot_number n rest small h =
    IsClean-dot (decimal n ++ rest) (first_digit (decimal n) rest (decimal_is_IsNumeral n (omega arith)).0) (IsClean-number n rest small h)

IsClean-dotted : (text octets : List ℕ) → IsDotted text octets → IsClean text
IsClean-dotted text octets h =
    let last = IsClean-dot_number h.d [] h.fit.3 (tt, tt) in
    let third = IsClean-dot_number h.c _ h.fit.2 last in
    let second = IsClean-dot_number h.b _ h.fit.1 third in
    rw (h.spelled, dotted h.a h.b h.c h.d) (IsClean-number h.a _ h.fit.0 second)

IsClean-colon : IsClean (58 ∷ [])
IsClean-colon = ((λ slash. omega arith, tt), (λ dot. absurd (omega arith), tt))

IsClean-groups : (ipv4 : Bool) (segments lead text : List ℕ) → IsClean lead → IsGroupsAfter ipv4 lead text segments → IsClean text
IsClean-groups ipv4 [] lead text before h = rw h (tt, tt)
IsClean-groups ipv4 (s ∷ segments) lead text before (inl h) =
    let group = IsClean-append lead h.0 before (IsClean-digits h.0 h.3.0.0.1) in
    rw h.2 (IsClean-append (lead ++ h.0) h.1 group (IsClean-groups ipv4 segments (58 ∷ []) h.1 IsClean-colon h.4))
IsClean-groups ipv4 (s ∷ segments) lead text before (inr h) =
    rw h.3 (IsClean-append lead h.0 before (IsClean-dotted h.0 h.1 h.4))

IsClean-colon_hex : (text groups : List ℕ) → IsColonHex text groups → IsClean text
IsClean-colon_hex text groups (inl h) = IsClean-groups true groups [] text (tt, tt) h.0
IsClean-colon_hex text groups (inr h) =
    let head = IsClean-groups false h.head [] h.head_text (tt, tt) h.head_groups in
    let tail = IsClean-groups true h.tail [] h.tail_text (tt, tt) h.tail_groups in
    let colons = IsClean-append (58 ∷ []) (58 ∷ []) IsClean-colon IsClean-colon in
    rw h.spelled (IsClean-append (h.head_text ++ 58 ∷ 58 ∷ []) h.tail_text (IsClean-append h.head_text (58 ∷ 58 ∷ []) head colons) tail)

pub IsClean-address : (text : List ℕ) (a : Addr) → IsAddrText text a → IsClean text
IsClean-address text (addr.V4 n) h = IsClean-dotted text h.0 h.1
IsClean-address text (addr.V6 n) h = IsClean-colon_hex text h.0 h.1

pub no_slash_at : (xs : List ℕ) (k : ℕ) → HasNoSlash xs → get_or xs k 0 ≢ 47
no_slash_at [] k h e = omega arith
no_slash_at (x ∷ xs) zero h e = h.0 e
no_slash_at (x ∷ xs) (suc k) h e = no_slash_at xs k h.1 e

pub digit_after_dot : (xs : List ℕ) (k j : ℕ) → HasDotsApart xs → get_or xs k 0 ≡ 46 → j ≡ k + 1 → 48 ≤ get_or xs j 0
digit_after_dot [] k j h e next = absurd (omega arith)
digit_after_dot (x ∷ xs) k zero h e next = absurd (omega arith)
digit_after_dot (x ∷ xs) zero (suc j) h e next =
    let here : j ≡ 0 = omega arith in
    rw here (h.0 e)
digit_after_dot (x ∷ xs) (suc k) (suc j) h e next = digit_after_dot xs k j h.1 e (omega arith)
