-- The commands, and the words by which each is named.
use Rattle.std.specs.Prelude.{◌≡◌, ◌≤◌, ◌⊎◌, ℕ, Bool, true, false, ◌&&◌, nat_eq, nat_le, cond, ◌^◌, ◌-◌, List, [], ◌∷◌, map, codes, decimal, Option, Some, None, option_map, option_and_then, bytes_eq}
use Rattle.std.specs.Borrow.{Bor}
use Rattle.std.specs.Str.Parse.{digits_value}
use Rattle.edge_main.specs.declared.commands.Command.{Command}
use Rattle.edge_main.specs.declared.commands.Command.TheVariants as command
use Rattle.edge_main.specs.declared.commands.Places.{Places}

-- a word that begins with `-`
abbrev pub is_dashed : List ℕ → Bool
is_dashed [] = false
is_dashed (byte ∷ bytes) = nat_eq byte 45

-- what words give: the places, and whether the flag `--run` stands
pub record Given : Type 0 where
  pub places : List (List ℕ)
  pub run : Bool

abbrev pub with_place : List ℕ → Given → Given
with_place word given = record given { places = word ∷ given.places }

-- the flag stands once at most
abbrev pub with_run : Given → Option Given
with_run given = cond given.run None (Some (record given { run = true }))

-- behind the first `--` each word is a place; before it `--run` is the flag, and no other word may begin with `-`
abbrev pub given_by : List (List ℕ) → Option Given
given_by [] = Some (record { places = []; run = false })
given_by (word ∷ words) =
    cond (bytes_eq word (codes "--")) (Some (record { places = words; run = false }))
    (cond (bytes_eq word (codes "--run")) (option_and_then with_run (given_by words))
    (cond (is_dashed word) None (option_map (with_place word) (given_by words))))

-- the number, at most so great, that a word is: the word is what is written for it in decimal
abbrev pub number_of : ℕ → List ℕ → Option ℕ
number_of most word =
    let number = digits_value 10 word in
    cond (bytes_eq word (decimal number) && nat_le number most) (Some number) None

-- a command of one word
abbrev pub command_named : List ℕ → Option Command
command_named word =
    cond (bytes_eq word (codes "check")) (Some command.Check) (cond (bytes_eq word (codes "replay")) (Some command.Replay) None)

-- so many requests from a seed: they are made, or with the flag made and judged
abbrev pub making_by : Bool → ℕ → ℕ → Command
making_by run seed requests = cond run (command.Trial seed requests) (command.Make seed requests)

-- the same of words: the seed is below 2^64, and there are at most 10,000,000 requests
abbrev pub making_of : Bool → List ℕ → List ℕ → Option Command
making_of run seed requests =
    option_and_then (λ from. option_map (λ count. making_by run from count) (number_of 10000000 requests)) (number_of (2 ^ 64 - 1) seed)

-- the command that the places are: one names it, without the flag, or it is `make` with a seed and a count of requests
abbrev pub command_for : Bool → List (List ℕ) → Option Command
command_for run [] = None
command_for run (name ∷ []) = cond run None (command_named name)
command_for run (name ∷ seed ∷ []) = None
command_for run (name ∷ seed ∷ requests ∷ []) = cond (bytes_eq name (codes "make")) (making_of run seed requests) None
command_for run (name ∷ seed ∷ requests ∷ other ∷ places) = None

-- the same of what words give
abbrev pub command_given : Option Given → Option Command
command_given given = option_and_then (λ (all : Given). command_for all.run all.places) given

-- the command that the words are
abbrev pub command_of : List (List ℕ) → Option Command
command_of words = command_given (given_by words)

-- the same of words that are lent
abbrev pub command_in : List (Bor (List ℕ)) → Option Command
command_in words = command_of (map (λ word. word.now) words)

-- ---- reading the words; no public clause cites these
-- a command makes at most 10,000,000 requests
abbrev pub IsFew : Command → Type 0
IsFew (command.Make seed requests) = requests ≤ 10000000
IsFew (command.Trial seed requests) = requests ≤ 10000000
IsFew other = Unit {0}

-- what is given where the flag has come before, or hasn't
abbrev pub flagged : Bool → Option Given → Option Given
flagged run given = cond run (option_and_then with_run given) given

-- what the words that are left give, where `--` has come or the flag has
abbrev pub given_left : Bool → Bool → List (List ℕ) → Option Given
given_left has_come run words = cond has_come (Some (record { places = words; run = run })) (flagged run (given_by words))

abbrev pub left_in : Places → Option Given
left_in places = given_left places.has_come places.run (map (λ word. word.now) places.words.now)

-- a flag comes next
abbrev pub is_flag_first : List (Bor (List ℕ)) → Bool
is_flag_first [] = false
is_flag_first (word ∷ words) = bytes_eq word.now (codes "--run")

-- no first flag comes next
abbrev pub IsPastFlag : Places → Type 0
IsPastFlag places = places.has_come ≡ false → places.run ≡ false → is_flag_first places.words.now ≡ false

-- the first place was taken from what the words give, or there is none
abbrev pub TakesFirst : Option Given → Option (Bor (List ℕ)) → Option Given → Type 0
TakesFirst before (Some word) after = before ≡ option_map (with_place word.now) after
TakesFirst before None after = (before ≡ None) ⊎ ((run : Bool) × (before ≡ Some (record { places = []; run = run })))

-- whether the flag stands, where no place is left
abbrev pub at_end_of : Bool → List (List ℕ) → Option Bool
at_end_of run [] = Some run
at_end_of run (place ∷ places) = None

abbrev pub at_end : Option Given → Option Bool
at_end given = option_and_then (λ (all : Given). at_end_of all.run all.places) given
