-- The arguments of a call, where they are as many and of such kinds as a function takes.
use Rattle.std.specs.Prelude.{ℕ, List, [], ◌∷◌, Option, None, Some, option_and_then}
use Rattle.std.specs.Option.{option_map, option_zip}
use Rattle.edge_fields.specs.declared.value.Value.{Value}
use Rattle.edge_fields.specs.Values.{text_in}
use Rattle.func_lib.specs.declared.arguments.ThreeTexts.{ThreeTexts}

-- what an argument is that may be left out
abbrev pub optional_of : {A : Type 0} → (Value → Option A) → Option Value → Option (Option A)
optional_of read None = Some None
optional_of read (Some v) = option_map Some (read v)

-- what each value is, where each is of the kind that is read
abbrev pub all_of : {A : Type 0} → (Value → Option A) → List Value → Option (List A)
all_of read [] = Some []
all_of read (v ∷ vs) = option_and_then (λ x. option_map (λ xs. x ∷ xs) (all_of read vs)) (read v)

-- the only argument
abbrev pub only_of : List Value → Option Value
only_of [] = None
only_of (v ∷ []) = Some v
only_of (v ∷ w ∷ vs) = None

-- the only argument, a text
abbrev pub one_text : List Value → Option (List ℕ)
one_text vs = option_and_then text_in (only_of vs)

-- two arguments
abbrev pub pair_of : List Value → Option (Value × Value)
pair_of [] = None
pair_of (v ∷ []) = None
pair_of (v ∷ w ∷ []) = Some (v, w)
pair_of (v ∷ w ∷ x ∷ vs) = None

-- two arguments, both texts
abbrev pub two_texts : List Value → Option (List ℕ × List ℕ)
two_texts vs = option_and_then (λ (v, w). option_zip (text_in v) (text_in w)) (pair_of vs)

-- two arguments, or three
abbrev pub two_or_three : List Value → Option (Value × Value × Option Value)
two_or_three [] = None
two_or_three (v ∷ []) = None
two_or_three (v ∷ w ∷ []) = Some (v, w, None)
two_or_three (v ∷ w ∷ x ∷ []) = Some (v, w, Some x)
two_or_three (v ∷ w ∷ x ∷ y ∷ vs) = None

-- an argument, or two
abbrev pub one_or_two : List Value → Option (Value × Option Value)
one_or_two [] = None
one_or_two (v ∷ []) = Some (v, None)
one_or_two (v ∷ w ∷ []) = Some (v, Some w)
one_or_two (v ∷ w ∷ x ∷ vs) = None

-- three arguments
abbrev pub triple_of : List Value → Option (Value × Value × Value)
triple_of [] = None
triple_of (v ∷ []) = None
triple_of (v ∷ w ∷ []) = None
triple_of (v ∷ w ∷ x ∷ []) = Some (v, w, x)
triple_of (v ∷ w ∷ x ∷ y ∷ vs) = None

-- what three values are, all texts
abbrev pub texts_of_three : Value × Value × Value → Option (List ℕ × List ℕ × List ℕ)
texts_of_three args =
    option_and_then (λ a. option_and_then (λ b. option_map (λ c. (a, b, c)) (text_in args.2)) (text_in args.1)) (text_in args.0)

-- the three texts themselves
abbrev pub parts_of : ThreeTexts → List ℕ × List ℕ × List ℕ
parts_of texts = (texts.first.now, texts.second.now, texts.third.now)

-- three arguments, all texts
abbrev pub three_texts : List Value → Option (List ℕ × List ℕ × List ℕ)
three_texts vs = option_and_then texts_of_three (triple_of vs)

-- three arguments and perhaps one more
abbrev pub three_or_four : List Value → Option ((Value × Value × Value) × Option Value)
three_or_four [] = None
three_or_four (v ∷ []) = None
three_or_four (v ∷ w ∷ []) = None
three_or_four (v ∷ w ∷ x ∷ []) = Some ((v, w, x), None)
three_or_four (v ∷ w ∷ x ∷ y ∷ []) = Some ((v, w, x), Some y)
three_or_four (v ∷ w ∷ x ∷ y ∷ z ∷ vs) = None
