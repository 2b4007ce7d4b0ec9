-- Words that stand in commands that wait, and in no other.
use Rattle.std.proofs.Common.{◌≡◌, ◌<◌, ◌≤◌, ◌^◌, ◌-◌, ◌⊎◌, ℕ, Bool, true, false, ◌&&◌, ◌||◌, not, is_some, nat_eq, nat_le, cond, List, [], ◌∷◌, ◌++◌, map, take, drop, length, slice_index_or, codes, decimal, Option, None, Some, option_map, option_and_then, MatchOption, bytes_eq, inl, inr, refl, sym, ap, subst, ◌∙◌, arith}
use Rattle.std.specs.Borrow.{Bor}
use Rattle.std.specs.List.{list_any, starts_with}
use Rattle.std.specs.Str.Parse.{AllDigits, digits_value}
use Rattle.std.specs.Str.Pattern.{FindsTextPrefix, StripsPrefix}
use Rattle.std.proofs.Math.Seq.{take-length}
use Rattle.std.proofs.lemmas.Bool.{cases_Bool}
use Rattle.std.proofs.lemmas.Bool.Decides.{Decides-eqb, nat_tests}
use Rattle.std.proofs.lemmas.Fmt.{decimal_is_IsNumeral}
use Rattle.std.proofs.lemmas.Slice.Eq.{bytes_eq-Decides, starts_is}
use Rattle.std.proofs.lemmas.Str.Parse.{digit_from_value}
use Rattle.std.proofs.lemmas.Str.Pattern.{starts_text}
use Rattle.edge_main.specs.declared.commands.Command.{Command}
use Rattle.edge_main.specs.Commands.{Given, is_dashed, given_by, with_run, number_of, command_named, making_by, making_of, command_for}
use Rattle.edge_main.specs.Commands as quiet
use Rattle.edge_main.specs.WaitCommands.{Wanted, is_option, has_value, value_in, with_place, with_workers, wanted_by, workers_of, workers_for, is_waiting, needs_wait, WaitingHasItsWord, QuietHasNoSuchWord, valued, wanted_left, left_in, is_option_first, IsPassed, waiting_wanted, at_end, at_end_of}
use Rattle.edge_main.proofs.CommandLemmas.{both_true}

-- ---- the value behind `=`

pub value_stripped : (word : List ℕ) (r : Option (Bor (List ℕ)))
    → MatchOption r (FindsTextPrefix (codes "--workers=") word None) (λ x. StripsPrefix (FindsTextPrefix (codes "--workers=")) word x.now)
    → option_map (λ value. value.now) r ≡ cond (has_value word) (Some (value_in word)) None
value_stripped word None lacks = rw (sym (starts_text false (codes "--workers=") word lacks)) refl
value_stripped word (Some x) (n, finds, is, size) =
    let long : n ≡ 10 = finds.0 in
    let has : has_value word ≡ true = (starts_is Decides-eqb word (codes "--workers=") _ refl).1 (drop n word) finds.1 in
    rw has (ap Some (is ∙ ap (λ k. drop k word) long))

-- ---- a command that waits

or_right : (a b : Bool) → b ≡ true → (a || b) ≡ true
or_right true b is = refl
or_right false b is = is

neither : (a b : Bool) → (a || b) ≡ false → (a ≡ false) × (b ≡ false)
neither true b is = absurd cc
neither false b is = (refl, is)

mapped : {A B : Type 0} (f : A → B) (o : Option A) (b : B) → option_map f o ≡ Some b → (a : A) × (o ≡ Some a) × (f a ≡ b)
mapped f None b is = absurd cc
mapped f (Some a) b is = (a, refl, cc)

then_some : {A B : Type 0} (f : A → Option B) (o : Option A) (b : B) → option_and_then f o ≡ Some b → (a : A) × (o ≡ Some a) × (f a ≡ Some b)
then_some f None b is = absurd cc
then_some f (Some a) b is = (a, refl, is)

-- a word of its own, or one of those behind it
waits_first : (word : List ℕ) (words : List (List ℕ)) → is_waiting word ≡ true → needs_wait (word ∷ words) ≡ true
waits_first word words is = rw is refl

waits_valued : (word : List ℕ) → has_value word ≡ true → is_waiting word ≡ true
waits_valued word is = or_right (is_option word) (has_value word || bytes_eq word (codes "serve")) (rw is refl)

waits_later : (word : List ℕ) (words : List (List ℕ)) → needs_wait words ≡ true → needs_wait (word ∷ words) ≡ true
waits_later word words is = or_right (is_waiting word) (needs_wait words) is

if_true : {A : Type 0} (b : Bool) (x y z : A) → b ≡ true → cond b x y ≡ z → x ≡ z
if_true true x y z is same = same
if_true false x y z is same = absurd cc

if_false : {A : Type 0} (b : Bool) (x y z : A) → b ≡ false → cond b x y ≡ z → y ≡ z
if_false true x y z is same = absurd cc
if_false false x y z is same = same

-- nothing, where words give something
nothing_given : {A : Type 0} {P : Type 0} (a : A) → None ≡ Some a → P
nothing_given a is = absurd cc

has_its_word : (words : List (List ℕ)) (wanted : Wanted) (value : List ℕ) → wanted_by false words ≡ Some wanted → wanted.workers ≡ Some value
    → needs_wait words ≡ true
has_its_word [] wanted value is has = nothing_given value (ap (option_and_then (λ (w : Wanted). w.workers)) is ∙ has)
has_its_word (word ∷ words) wanted value is has =
    elim (cases_Bool (has_value word)) [
      | inl valued ↦ waits_first word words (waits_valued word valued)
      | inr plain ↦ elim (cases_Bool (is_option word)) [
        | inl option ↦ waits_first word words (rw option refl)
        | inr other ↦
            let left = if_false (is_option word) _ _ _ other (if_false (has_value word) _ _ _ plain is) in
            elim (cases_Bool (bytes_eq word (codes "--"))) [
              | inl dashes ↦
                  nothing_given value
                  (ap (option_and_then (λ (w : Wanted). w.workers)) (if_true (bytes_eq word (codes "--")) _ _ _ dashes left) ∙ has)
              | inr others ↦
                  let placed = if_false (bytes_eq word (codes "--")) _ _ _ others left in
                  elim (cases_Bool (is_dashed word)) [
                    | inl dashed ↦ nothing_given wanted (if_true (is_dashed word) _ _ _ dashed placed)
                    | inr place ↦
                        let (rest, read, same) = mapped (with_place word) (wanted_by false words) wanted (if_false (is_dashed word) _ _ _ place placed) in
                        waits_later word words (has_its_word words rest value read (ap (λ (w : Wanted). w.workers) same ∙ has))
                  ]
            ]
      ]
    ]

valued_by : (places : List (List ℕ)) (workers : Option (List ℕ)) (number : ℕ) → workers_for places workers ≡ Some number
    → (value : List ℕ) × (workers ≡ Some value)
valued_by [] workers number is = nothing_given number is
valued_by (name ∷ []) workers number is =
    elim (cases_Bool (bytes_eq name (codes "replay"))) [
      | inl named ↦
          let (value, has, read) = then_some workers_of workers number (if_true (bytes_eq name (codes "replay")) _ _ _ named is) in
          (value, has)
      | inr other ↦ nothing_given number (if_false (bytes_eq name (codes "replay")) _ _ _ other is)
    ]
valued_by (name ∷ other ∷ places) workers number is = nothing_given number is

pub waiting_has_its_word : WaitingHasItsWord
waiting_has_its_word words number is =
    let (wanted, read, named) = then_some (λ (all : Wanted). workers_for all.places all.workers) (wanted_by false words) number is in
    let (value, has) = valued_by wanted.places wanted.workers number named in
    has_its_word words wanted value read has

-- ---- a command that waits for nobody

waits_neither : (word : List ℕ) (words : List (List ℕ)) → is_waiting word ≡ false → needs_wait words ≡ false → needs_wait (word ∷ words) ≡ false
waits_neither word words first later = rw first later

-- a word that is written so is none that waits
is_as : (word other : List ℕ) → bytes_eq word other ≡ true → is_waiting other ≡ false → is_waiting word ≡ false
is_as word other same is = subst (λ (text : List ℕ). is_waiting text ≡ false) (sym ((bytes_eq-Decides word other).0 same)) is

places_of : (before given : Given) → Some before ≡ Some given → before.places ≡ given.places
places_of before given is = let same : before ≡ given = cc in ap (λ (g : Given). g.places) same

run_kept : (given before : Given) → with_run before ≡ Some given → given.places ≡ before.places
run_kept given before is =
    elim (cases_Bool before.run) [
      | inl twice ↦ nothing_given given (if_true before.run _ _ _ twice is)
      | inr once ↦ sym (places_of _ given (if_false before.run _ _ _ once is))
    ]

places_wait : (words : List (List ℕ)) (given : Given) → given_by words ≡ Some given → needs_wait given.places ≡ false → needs_wait words ≡ false
places_wait [] given is none = refl
places_wait (word ∷ words) given is none =
    elim (cases_Bool (bytes_eq word (codes "--"))) [
      | inl dashes ↦
          let all : words ≡ given.places = places_of _ given (if_true (bytes_eq word (codes "--")) _ _ _ dashes is) in
          waits_neither word words (is_as word (codes "--") dashes refl) (ap needs_wait all ∙ none)
      | inr others ↦ elim (cases_Bool (bytes_eq word (codes "--run"))) [
        | inl run ↦
            let left = if_true (bytes_eq word (codes "--run")) _ _ _ run (if_false (bytes_eq word (codes "--")) _ _ _ others is) in
            let (before, read, flagged) = then_some with_run (given_by words) given left in
            waits_neither word words (is_as word (codes "--run") run refl)
            (places_wait words before read (ap needs_wait (sym (run_kept given before flagged)) ∙ none))
        | inr other ↦
            let left = if_false (bytes_eq word (codes "--run")) _ _ _ other (if_false (bytes_eq word (codes "--")) _ _ _ others is) in
            elim (cases_Bool (is_dashed word)) [
              | inl dashed ↦ nothing_given given (if_true (is_dashed word) _ _ _ dashed left)
              | inr place ↦
                  let (before, read, same) = mapped (quiet.with_place word) (given_by words) given (if_false (is_dashed word) _ _ _ place left) in
                  let all : word ∷ before.places ≡ given.places = ap (λ (g : Given). g.places) same in
                  let (first, later) = neither (is_waiting word) (needs_wait before.places) (ap needs_wait all ∙ none) in
                  waits_neither word words first (places_wait words before read later)
            ]
      ]
    ]

-- a number's text begins with a digit
digit_first : (number byte : ℕ) (bytes : List ℕ) → number < 2 ^ 64 → decimal number ≡ byte ∷ bytes → (48 ≤ byte) × (byte ≤ 57)
digit_first number byte bytes fits is =
    let first = digit_from_value byte (subst (AllDigits 10) is (decimal_is_IsNumeral number fits).0.1).0 in
    (omega (arith, first), omega (arith, first))

no_number : (number : ℕ) (byte : ℕ) (bytes : List ℕ) → number < 2 ^ 64 → (byte < 48) ⊎ (57 < byte) → bytes_eq (decimal number) (byte ∷ bytes) ≡ false
no_number number byte bytes fits apart =
    elim (cases_Bool (bytes_eq (decimal number) (byte ∷ bytes))) [
      | inl same ↦
          let (low, high) = digit_first number byte bytes fits ((bytes_eq-Decides (decimal number) (byte ∷ bytes)).0 same) in
          elim apart [
            | inl below ↦ absurd (omega (arith, low, below))
            | inr above ↦ absurd (omega (arith, high, above))
          ]
      | inr other ↦ other
    ]

no_value : (number : ℕ) → number < 2 ^ 64 → has_value (decimal number) ≡ false
no_value number fits =
    elim (cases_Bool (has_value (decimal number))) [
      | inl has ↦
          let is = (starts_is Decides-eqb (decimal number) (codes "--workers=") (has_value (decimal number)) refl).0 has in
          let (low, high) = digit_first number 45 _ fits is in
          absurd (omega (arith, low))
      | inr none ↦ none
    ]

number_waits : (number : ℕ) → number < 2 ^ 64 → is_waiting (decimal number) ≡ false
number_waits number fits =
    let option : is_option (decimal number) ≡ false = no_number number 45 _ fits (inl (omega arith)) in
    let serve : bytes_eq (decimal number) (codes "serve") ≡ false = no_number number 115 _ fits (inr (omega arith)) in
    rw (option, no_value number fits, serve) refl

number_of_waits : (most : ℕ) (word : List ℕ) (number : ℕ) → most < 2 ^ 64 → number_of most word ≡ Some number → is_waiting word ≡ false
number_of_waits most word number fits is =
    let value = digits_value 10 word in
    elim (cases_Bool (bytes_eq word (decimal value) && nat_le value most)) [
      | inl both ↦
          let (written, low) = both_true (bytes_eq word (decimal value)) (nat_le value most) both in
          let below : value ≤ most = grind (arith, nat_tests, low) in
          let small : value < 2 ^ 64 = omega (arith, below, fits) in
          is_as word (decimal value) written (number_waits value small)
      | inr other ↦ nothing_given number (if_false (bytes_eq word (decimal value) && nat_le value most) _ _ _ other is)
    ]

name_waits : (name : List ℕ) (command : Command) → command_named name ≡ Some command → is_waiting name ≡ false
name_waits name command is =
    elim (cases_Bool (bytes_eq name (codes "check"))) [
      | inl check ↦ is_as name (codes "check") check refl
      | inr other ↦ elim (cases_Bool (bytes_eq name (codes "replay"))) [
        | inl replay ↦ is_as name (codes "replay") replay refl
        | inr none ↦
            nothing_given command (if_false (bytes_eq name (codes "replay")) _ _ _ none (if_false (bytes_eq name (codes "check")) _ _ _ other is))
      ]
    ]

made_waits : (run : Bool) (seed requests : List ℕ) (command : Command) → making_of run seed requests ≡ Some command
    → (is_waiting seed ≡ false) × (is_waiting requests ≡ false)
made_waits run seed requests command is =
    let (from, seeded, rest) = then_some (λ (from : ℕ). option_map (λ count. making_by run from count) (number_of 10000000 requests))
    (number_of (2 ^ 64 - 1) seed) command is in
    let (count, counted, made) = mapped (λ (count : ℕ). making_by run from count) (number_of 10000000 requests) command rest in
    (number_of_waits (2 ^ 64 - 1) seed from (omega arith) seeded, number_of_waits 10000000 requests count (omega arith) counted)

quiet_places : (run : Bool) (places : List (List ℕ)) (command : Command) → command_for run places ≡ Some command → needs_wait places ≡ false
quiet_places run [] command is = refl
quiet_places true (name ∷ []) command is = nothing_given command is
quiet_places false (name ∷ []) command is = waits_neither name [] (name_waits name command is) refl
quiet_places run (name ∷ seed ∷ []) command is = nothing_given command is
quiet_places run (name ∷ seed ∷ requests ∷ []) command is =
    elim (cases_Bool (bytes_eq name (codes "make"))) [
      | inl make ↦
          let (first, second) = made_waits run seed requests command (if_true (bytes_eq name (codes "make")) _ _ _ make is) in
          waits_neither name (seed ∷ requests ∷ []) (is_as name (codes "make") make refl)
          (waits_neither seed (requests ∷ []) first (waits_neither requests [] second refl))
      | inr other ↦ nothing_given command (if_false (bytes_eq name (codes "make")) _ _ _ other is)
    ]
quiet_places run (name ∷ seed ∷ requests ∷ other ∷ places) command is = nothing_given command is

pub quiet_has_no_such_word : QuietHasNoSuchWord
quiet_has_no_such_word words command is =
    let (given, read, named) = then_some (λ (all : Given). command_for all.run all.places) (given_by words) command is in
    places_wait words given read (quiet_places given.run given.places command named)

-- ---- words that are lent

pub lent_words : (words : List (Bor (List ℕ))) → list_any (λ word. is_waiting word.now) words ≡ needs_wait (map (λ word. word.now) words)
lent_words [] = refl
lent_words (word ∷ words) = ap (λ (later : Bool). is_waiting word.now || later) (lent_words words)

-- ---- reading the words of a command that waits

excludes : (word : List ℕ) → is_option word ≡ true → has_value word ≡ false
excludes word is = subst (λ (text : List ℕ). has_value text ≡ false) (sym ((bytes_eq-Decides word (codes "--workers")).0 is)) refl

pub valued_first : (word value : List ℕ) → Some value ≡ cond (has_value word) (Some (value_in word)) None → (has_value word ≡ true) × (value ≡ value_in word)
valued_first word value is =
    elim (cases_Bool (has_value word)) [
      | inl has ↦ (has, let same : Some (value_in word) ≡ Some value = if_true (has_value word) _ _ _ has (sym is) in cc)
      | inr none ↦ nothing_given value (if_false (has_value word) _ _ _ none (sym is))
    ]

not_false : (b : Bool) → not b ≡ false → b ≡ true
not_false true is = refl
not_false false is = absurd cc

pub passed_apart : (words : List (Bor (List ℕ))) (other : Bor (List ℕ)) → 2 ≤ length words → is_option (slice_index_or words 0 other).now ≡ true
    → is_dashed (slice_index_or words 1 other).now ≡ false → IsPassed words (slice_index_or words 1 other).now (take (length words - 2) (drop 2 words))
passed_apart [] other two option value = absurd (omega (arith, two))
passed_apart (word ∷ []) other two option value = absurd (omega (arith, two))
passed_apart (word ∷ second ∷ words) other two option value =
    let size : length (word ∷ second ∷ words) - 2 ≡ length words = omega arith in
    let rest : take (length (word ∷ second ∷ words) - 2) words ≡ words = ap (λ n. take n words) size ∙ take-length words in
    rw (excludes word.now option, option, value, rest) refl

pub passed_joined : (words : List (Bor (List ℕ))) (other : Bor (List ℕ)) (value : List ℕ) → has_value other.now ≡ false
    → (has_value (slice_index_or words 0 other).now ≡ true) × (value ≡ value_in (slice_index_or words 0 other).now)
    → IsPassed words value (take (length words - 1) (drop 1 words))
passed_joined [] other value none (has, is) = let never : true ≡ false = sym has ∙ none in absurd cc
passed_joined (word ∷ words) other value none (has, is) =
    let size : length (word ∷ words) - 1 ≡ length words = omega arith in
    let rest : take (length (word ∷ words) - 1) words ≡ words = ap (λ n. take n words) size ∙ take-length words in
    rw (has, is, rest) refl

pub left_passed : (has_come : Bool) (workers : Option (Bor (List ℕ))) (words others : List (Bor (List ℕ))) (value : Bor (List ℕ)) → has_come ≡ false
    → is_some workers ≡ false → IsPassed words value.now others
    → wanted_left has_come (Some value) (map (λ word. word.now) others) ≡ wanted_left has_come workers (map (λ word. word.now) words)
left_passed true workers words others value early first passed = absurd cc
left_passed false None words others value early first passed = sym passed
left_passed false (Some given) words others value early first passed = absurd cc

-- the option a second time
twice : (first second : List ℕ) (given : Option Wanted) → option_and_then (with_workers first) (option_and_then (with_workers second) given) ≡ None
twice first second None = refl
twice first second (Some wanted) =
    elim (cases_Bool (is_some wanted.workers)) [
      | inl has ↦ rw has refl
      | inr none ↦ rw none refl
    ]

-- where the next word begins with `-`, and is neither `--` nor the option for the first time, the words give nothing
pub dashed_left : (workers : Option (Bor (List ℕ))) (word : Bor (List ℕ)) (words : List (Bor (List ℕ))) → is_dashed word.now ≡ true
    → bytes_eq word.now (codes "--") ≡ false → (workers ≡ None → is_option_first (word ∷ words) ≡ false)
    → valued workers (wanted_by false (map (λ one. one.now) (word ∷ words))) ≡ None
dashed_left None word [] dashed other past =
    let plain = past refl in
    elim (cases_Bool (is_option word.now)) [
      | inl option ↦ rw (plain, option) refl
      | inr none ↦ rw (plain, none, other, dashed) refl
    ]
dashed_left None word (value ∷ words) dashed other past =
    elim (cases_Bool (is_option word.now)) [
      | inl option ↦
          let bad = not_false (is_dashed value.now) (if_true (is_option word.now) _ _ _ option (past refl)) in
          rw (excludes word.now option, option, bad) refl
      | inr none ↦
          let plain = if_false (is_option word.now) _ _ _ none (past refl) in
          rw (plain, none, other, dashed) refl
    ]
dashed_left (Some given) word [] dashed other past =
    elim (cases_Bool (has_value word.now)) [
      | inl has ↦ rw has (twice given.now (value_in word.now) (wanted_by false []))
      | inr plain ↦ elim (cases_Bool (is_option word.now)) [
        | inl option ↦ rw (plain, option) refl
        | inr none ↦ rw (plain, none, other, dashed) refl
      ]
    ]
dashed_left (Some given) word (value ∷ words) dashed other past =
    let rest = map (λ (one : Bor (List ℕ)). one.now) words in
    elim (cases_Bool (has_value word.now)) [
      | inl has ↦ rw has (twice given.now (value_in word.now) (wanted_by false (value.now ∷ rest)))
      | inr plain ↦ elim (cases_Bool (is_option word.now)) [
        | inl option ↦ elim (cases_Bool (is_dashed value.now)) [
          | inl bad ↦ rw (plain, option, bad) refl
          | inr good ↦ rw (plain, option, good) (twice given.now value.now (wanted_by false rest))
        ]
        | inr none ↦ rw (plain, none, other, dashed) refl
      ]
    ]

pub nothing_left : (has_come : Bool) (workers : Option (Bor (List ℕ))) (words : List (Bor (List ℕ))) (other : Bor (List ℕ)) → 1 ≤ length words
    → has_come ≡ false → is_dashed (slice_index_or words 0 other).now ≡ true → bytes_eq (slice_index_or words 0 other).now (codes "--") ≡ false
    → (has_come ≡ false → workers ≡ None → is_option_first words ≡ false) → wanted_left has_come workers (map (λ word. word.now) words) ≡ None
nothing_left true workers words other some early dashed name past = absurd cc
nothing_left false workers [] other some early dashed name past = absurd (omega (arith, some))
nothing_left false workers (word ∷ words) other some early dashed name past = dashed_left workers word words dashed name (past refl)

-- a word that begins otherwise is none of those
undashed : (word : List ℕ) (test : Bool) → is_dashed word ≡ false → (test ≡ true → is_dashed word ≡ true) → test ≡ false
undashed word true place dashed = let never : true ≡ false = sym (dashed refl) ∙ place in absurd cc
undashed word false place dashed = refl

same_dashed : (word other : List ℕ) → bytes_eq word other ≡ true → is_dashed other ≡ true → is_dashed word ≡ true
same_dashed word other same is = subst (λ (text : List ℕ). is_dashed text ≡ true) (sym ((bytes_eq-Decides word other).0 same)) is

value_dashed : (word : List ℕ) → has_value word ≡ true → is_dashed word ≡ true
value_dashed word has =
    let is = (starts_is Decides-eqb word (codes "--workers=") (has_value word) refl).0 has in
    subst (λ (text : List ℕ). is_dashed text ≡ true) (sym is) refl

ends_behind : (workers : Option (Bor (List ℕ))) (place : List ℕ) (places : List (List ℕ))
    → at_end (valued workers (Some (record { places = place ∷ places; workers = None }))) ≡ None
ends_behind None place places = refl
ends_behind (Some value) place places = refl

-- `--` at the end, or before places
ends_dashes : (workers : Option (Bor (List ℕ))) (word : Bor (List ℕ)) (words : List (Bor (List ℕ))) → bytes_eq word.now (codes "--") ≡ true
    → (length (word ∷ words) ≡ 1 → bytes_eq word.now (codes "--") ≡ false)
    → at_end (valued workers (wanted_by false (map (λ one. one.now) (word ∷ words)))) ≡ None
ends_dashes workers word [] dashes name = let never : true ≡ false = sym dashes ∙ name refl in absurd cc
ends_dashes workers word (second ∷ words) dashes name =
    let is : word.now ≡ codes "--" = (bytes_eq-Decides word.now (codes "--")).0 dashes in
    let behind : List (List ℕ) = map (λ (one : Bor (List ℕ)). one.now) (second ∷ words) in
    let read = subst (λ (text : List ℕ). wanted_by false (text ∷ behind) ≡ Some (record { places = behind; workers = None })) (sym is) refl in
    ap (λ (given : Option Wanted). at_end (valued workers given)) read ∙ ends_behind workers second.now (map (λ (one : Bor (List ℕ)). one.now) words)

-- where a place comes next
place_left : (word : Bor (List ℕ)) (words : List (Bor (List ℕ))) → is_dashed word.now ≡ false
    → wanted_by false (map (λ one. one.now) (word ∷ words)) ≡ option_map (with_place word.now) (wanted_by false (map (λ one. one.now) words))
place_left word words place =
    let plain = undashed word.now (has_value word.now) place (λ has. value_dashed word.now has) in
    let other = undashed word.now (is_option word.now) place (λ is. same_dashed word.now (codes "--workers") is refl) in
    let more = undashed word.now (bytes_eq word.now (codes "--")) place (λ is. same_dashed word.now (codes "--") is refl) in
    rw (plain, other, more, place) refl

-- where the option has come before, and a place comes next
valued_place : (workers : Option (Bor (List ℕ))) (word : List ℕ) (given : Option Wanted)
    → valued workers (option_map (with_place word) given) ≡ option_map (with_place word) (valued workers given)
valued_place None word given = refl
valued_place (Some value) word None = refl
valued_place (Some value) word (Some wanted) =
    elim (cases_Bool (is_some wanted.workers)) [
      | inl has ↦ rw has refl
      | inr none ↦ rw none refl
    ]

pub place_taken : (has_come : Bool) (workers : Option (Bor (List ℕ))) (words : List (Bor (List ℕ))) (other : Bor (List ℕ)) → 1 ≤ length words
    → has_come ≡ false → is_dashed (slice_index_or words 0 other).now ≡ false
    → wanted_left has_come workers (map (λ word. word.now) words)
    ≡ option_map (with_place (slice_index_or words 0 other).now) (wanted_left has_come workers (map (λ word. word.now) (take (length words - 1) (drop 1 words))))
place_taken true workers words other some early place = absurd cc
place_taken false workers [] other some early place = absurd (omega (arith, some))
place_taken false workers (word ∷ words) other some early place =
    let size : length (word ∷ words) - 1 ≡ length words = omega arith in
    let rest : take (length (word ∷ words) - 1) words ≡ words = ap (λ n. take n words) size ∙ take-length words in
    let given = wanted_by false (map (λ (one : Bor (List ℕ)). one.now) words) in
    ap (valued workers) (place_left word words place) ∙ valued_place workers word.now given
    ∙ ap (λ (left : List (Bor (List ℕ))). option_map (with_place word.now) (valued workers (wanted_by false (map (λ (one : Bor (List ℕ)). one.now) left)))) (sym rest)

ends_placed : (workers : Option (Bor (List ℕ))) (word : List ℕ) (given : Option Wanted) → at_end (valued workers (option_map (with_place word) given)) ≡ None
ends_placed None word None = refl
ends_placed (Some value) word None = refl
ends_placed None word (Some wanted) = refl
ends_placed (Some value) word (Some wanted) =
    elim (cases_Bool (is_some wanted.workers)) [
      | inl has ↦ rw has refl
      | inr none ↦ rw none refl
    ]

pub ends_early : (has_come : Bool) (workers : Option (Bor (List ℕ))) (words : List (Bor (List ℕ))) (other : Bor (List ℕ)) → 1 ≤ length words
    → (length words ≡ 1 → has_come ≡ false → bytes_eq (slice_index_or words 0 other).now (codes "--") ≡ false)
    → (has_come ≡ false → workers ≡ None → is_option_first words ≡ false) → None ≡ at_end (wanted_left has_come workers (map (λ word. word.now) words))
ends_early has_come workers [] other some name past = absurd (omega (arith, some))
ends_early true workers (word ∷ words) other some name past = refl
ends_early false workers (word ∷ words) other some name past =
    elim (cases_Bool (is_dashed word.now)) [
      | inr place ↦
          sym (ap (λ (given : Option Wanted). at_end (valued workers given)) (place_left word words place)
          ∙ ends_placed workers word.now (wanted_by false (map (λ (one : Bor (List ℕ)). one.now) words)))
      | inl dashed ↦ elim (cases_Bool (bytes_eq word.now (codes "--"))) [
        | inr others ↦ sym (ap at_end (dashed_left workers word words dashed others (past refl)))
        | inl dashes ↦ sym (ends_dashes workers word words dashes (λ short. name short refl))
      ]
    ]

-- what a name and the option's value are
abbrev pub named_by : List ℕ → Option (List ℕ) → Option ℕ
named_by name value = cond (bytes_eq name (codes "replay")) (option_and_then workers_of value) None

ended_by : (name : List ℕ) (places : List (List ℕ)) (workers : Option (List ℕ)) → workers_for (name ∷ places) workers ≡ named_by name (at_end_of workers places)
ended_by name [] workers = refl
ended_by name (place ∷ places) workers =
    elim (cases_Bool (bytes_eq name (codes "replay"))) [
      | inl named ↦ rw named refl
      | inr other ↦ rw other refl
    ]

pub ended : (name : List ℕ) (after : Option Wanted) → waiting_wanted (option_map (with_place name) after) ≡ named_by name (at_end after)
ended name None =
    elim (cases_Bool (bytes_eq name (codes "replay"))) [
      | inl named ↦ rw named refl
      | inr other ↦ rw other refl
    ]
ended name (Some wanted) = ended_by name wanted.places wanted.workers

pub named_nothing : (name : List ℕ) → named_by name None ≡ None
named_nothing name =
    elim (cases_Bool (bytes_eq name (codes "replay"))) [
      | inl named ↦ rw named refl
      | inr other ↦ rw other refl
    ]

pub named_replay : (name value : List ℕ) → bytes_eq name (codes "replay") ≡ true → named_by name (Some value) ≡ workers_of value
named_replay name value is = rw is refl

pub named_other : (name value : List ℕ) → bytes_eq name (codes "replay") ≡ false → named_by name (Some value) ≡ None
named_other name value is = rw is refl
