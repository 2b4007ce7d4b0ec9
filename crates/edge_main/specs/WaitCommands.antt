-- The commands that wait for others, by the words that name each; and which words name one.
use Rattle.std.specs.Prelude.{◌≡◌, ℕ, Bool, true, false, ◌||◌, not, nat_eq, cond, List, [], ◌∷◌, map, drop, codes, Option, Some, None, is_some, option_map, option_and_then, bytes_eq}
use Rattle.std.specs.Borrow.{Bor}
use Rattle.std.specs.List.{list_any, starts_with}
use Rattle.edge_main.specs.declared.commands.Command.{Command}
use Rattle.edge_main.specs.declared.waiting_words.Wanted.{Wanted as Reader}
use Rattle.edge_main.specs.Commands.{is_dashed, number_of, command_of}

-- the option's name alone, and the front of a word that has its value too
abbrev pub is_option : List ℕ → Bool
is_option word = bytes_eq word (codes "--workers")

abbrev pub has_value : List ℕ → Bool
has_value word = starts_with nat_eq word (codes "--workers=")

abbrev pub value_in : List ℕ → List ℕ
value_in word = drop 10 word

-- what words give: the places, and the value of the option `--workers` as it is written, where it stands
pub record Wanted : Type 0 where
  pub places : List (List ℕ)
  pub workers : Option (List ℕ)

abbrev pub with_place : List ℕ → Wanted → Wanted
with_place word wanted = record wanted { places = word ∷ wanted.places }

-- the option stands once at most
abbrev pub with_workers : List ℕ → Wanted → Option Wanted
with_workers value wanted = cond (is_some wanted.workers) None (Some (record wanted { workers = Some value }))

-- the value is the next word, which the first argument tells, or follows `=`; behind the first `--` each word is a place, and
-- before it no other word may begin with `-`
abbrev pub wanted_by : Bool → List (List ℕ) → Option Wanted
wanted_by true [] = None
wanted_by true (word ∷ words) = cond (is_dashed word) None (option_and_then (with_workers word) (wanted_by false words))
wanted_by false [] = Some (record { places = []; workers = None })
wanted_by false (word ∷ words) =
    cond (has_value word) (option_and_then (with_workers (value_in word)) (wanted_by false words))
    (cond (is_option word) (wanted_by true words)
    (cond (bytes_eq word (codes "--")) (Some (record { places = words; workers = None }))
    (cond (is_dashed word) None (option_map (with_place word) (wanted_by false words)))))

-- a number of workers, 1 to 64
abbrev pub positive : ℕ → Option ℕ
positive number = cond (nat_eq number 0) None (Some number)

abbrev pub workers_of : List ℕ → Option ℕ
workers_of value = option_and_then positive (number_of 64 value)

-- `replay` by so many workers is the one command that waits
abbrev pub workers_for : List (List ℕ) → Option (List ℕ) → Option ℕ
workers_for [] workers = None
workers_for (name ∷ []) workers = cond (bytes_eq name (codes "replay")) (option_and_then workers_of workers) None
workers_for (name ∷ other ∷ places) workers = None

abbrev pub waiting_wanted : Option Wanted → Option ℕ
waiting_wanted given = option_and_then (λ (all : Wanted). workers_for all.places all.workers) given

-- by how many workers the words want `replay`, where they are a command that waits
abbrev pub waiting_of : List (List ℕ) → Option ℕ
waiting_of words = waiting_wanted (wanted_by false words)

-- the same of words that are lent
abbrev pub waiting_in : List (Bor (List ℕ)) → Option ℕ
waiting_in words = waiting_of (map (λ word. word.now) words)

-- ---- whether words may be a command that waits

-- a word that no command has that waits for nobody
abbrev pub is_waiting : List ℕ → Bool
is_waiting word = is_option word || (has_value word || bytes_eq word (codes "serve"))

abbrev pub needs_wait : List (List ℕ) → Bool
needs_wait words = list_any is_waiting words

-- the same of words that are lent
abbrev pub needs_wait_in : List (Bor (List ℕ)) → Bool
needs_wait_in words = needs_wait (map (λ word. word.now) words)

-- a command that waits has such a word
abbrev pub WaitingHasItsWord : Type 0
WaitingHasItsWord = (words : List (List ℕ)) (workers : ℕ) → waiting_of words ≡ Some workers → needs_wait words ≡ true

-- a command that waits for nobody has none
abbrev pub QuietHasNoSuchWord : Type 0
QuietHasNoSuchWord = (words : List (List ℕ)) (command : Command) → command_of words ≡ Some command → needs_wait words ≡ false

-- ---- reading the words; no public clause cites these
-- what is given where the option's value has come before, or hasn't
abbrev pub valued : Option (Bor (List ℕ)) → Option Wanted → Option Wanted
valued None given = given
valued (Some value) given = option_and_then (with_workers value.now) given

-- what the words that are left give, where `--` has come or the option has
abbrev pub wanted_left : Bool → Option (Bor (List ℕ)) → List (List ℕ) → Option Wanted
wanted_left has_come workers words =
    cond has_come (Some (record { places = words; workers = option_map (λ value. value.now) workers })) (valued workers (wanted_by false words))

abbrev pub left_in : Reader → Option Wanted
left_in reader = wanted_left reader.has_come reader.workers (map (λ word. word.now) reader.words.now)

-- the option comes next, with its value
abbrev pub is_option_first : List (Bor (List ℕ)) → Bool
is_option_first [] = false
is_option_first (word ∷ []) = has_value word.now
is_option_first (word ∷ value ∷ words) = cond (is_option word.now) (not (is_dashed value.now)) (has_value word.now)

-- what the words give is what those behind the option give, with its value
abbrev pub IsPassed : List (Bor (List ℕ)) → List ℕ → List (Bor (List ℕ)) → Type 0
IsPassed words value others =
    wanted_by false (map (λ word. word.now) words) ≡ option_and_then (with_workers value) (wanted_by false (map (λ word. word.now) others))

-- no first option comes next
abbrev pub IsPastOption : Reader → Type 0
IsPastOption reader = reader.has_come ≡ false → reader.workers ≡ None → is_option_first reader.words.now ≡ false

-- the first place was taken from what the words give, or there is none
abbrev pub TakesFirst : Option Wanted → Option (Bor (List ℕ)) → Option Wanted → Type 0
TakesFirst before (Some word) after = before ≡ option_map (with_place word.now) after
TakesFirst before None after = waiting_wanted before ≡ None

-- the option's value, where no place is left
abbrev pub at_end_of : Option (List ℕ) → List (List ℕ) → Option (List ℕ)
at_end_of workers [] = workers
at_end_of workers (place ∷ places) = None

abbrev pub at_end : Option Wanted → Option (List ℕ)
at_end given = option_and_then (λ (all : Wanted). at_end_of all.workers all.places) given
